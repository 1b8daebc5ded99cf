-- The argument over a set of the callbacks: that over all of them, once more, with the rest as others.
--   set-run, set-within, set_rising   the run, the history and the curves of a set
--   in_set          the bound of a callback over the demand of its set
--   alone           all callbacks are a set that nobody is outside of
--   left_less       what is left of a started instance is less than E(1)
--   no_start        while one of an urgent set waits, nobody else starts
--   set_blocked     so the rest get no more than what was left of one instance
use mathlib.Core.Path.{◌≡◌, refl, ap}
use mathlib.Core.Logic.{◌⊎◌, inl, inr, ◌≢◌}
use mathlib.Core.Bool.{Bool, true, false, not}
use Prim.Native.Nat.{ℕ, zero, suc, ◌+◌, ◌*◌, ◌-◌, ◌≤◌, ◌<◌}
use native.Mathlib.Nat.{add-zero, add-suc, zero-mul, one-mul}
use native.Mathlib.Omega.{arith}
use Rattle.ranges.specs.Sum.{sum, given}
use Rattle.ranges.proofs.SumLaws.{le_or_lt, all_or_one, sum-le, sum-add, sum_same, sum-none, sum_one, given_up}
use Rattle.curves.specs.Demand.{demand, limit}
use Rattle.curves.specs.Parts.{Rising}
use Rattle.busy_window.specs.Counts.{Counts, Quiet, Open, Busy}
use Rattle.busy_window.specs.Run.{Run}
use Rattle.busy_window.specs.Within.{Within}
use Rattle.busy_window.specs.Bound.{Covers}
use Rattle.busy_window.specs.Flow.{Events, States, Local, fed, counts}
use Rattle.busy_window.specs.Level.{only, arrivals_only, Urgent}
use Rattle.busy_window.proofs.Busy.{late}
use Rattle.busy_window.proofs.Chain.{fed-none}
use Rattle.busy_window.proofs.Flow.{inflow, work_count}

-- ---- what is given on both sides

given_strict : (b : Bool) {x y u w : ℕ} → (x < y → u < w) → given b x < given b y → given b u < given b w
given_strict true f l = f l
given_strict false f l = absurd (omega arith)

given_both : (b : Bool) (x : ℕ) → given b x + given (not b) x ≡ x
given_both true x = add-zero x
given_both false x = omega arith

-- what a set and the rest have, they have together
sum_split : (k : ℕ → Bool) (f : ℕ → ℕ) (n : ℕ) → sum n (λ i. given (k i) (f i)) + sum n (λ i. given (not (k i)) (f i)) ≡ sum n f
sum_split k f n = omega (arith, sum-add (λ i. given (k i) (f i)) (λ i. given (not (k i)) (f i)) n, sum_same (λ i. given (k i) (f i) + given (not (k i)) (f i)) f n (λ i _. given_both (k i) (f i)))

-- ---- a set

module _ (n : ℕ) (k : ℕ → Bool) (c : Counts) where
  -- at most b units go to others, the rest of the callbacks among them, from a time on at which nothing of the set waits, while something does
  abbrev pub Blocked : ℕ → ℕ → Type 0
  Blocked N b = (t d : ℕ) → t + d ≤ N → Quiet n (only n k c) t → Busy n (only n k c) t (t + d) → (only n k c).other (t + d) ≤ (only n k c).other t + b

  pub set-run : (N b b' : ℕ) → Run n N b c → Blocked N b' → Run n N b' (only n k c)
  unfolding only
  set-run N b b' r blocked = record {
    fresh = λ i l. given_up (k i) (r.fresh i l);
    activated_up = λ i t l h. given_up (k i) (r.activated_up i t l h);
    finished_up = λ i t l h. given_up (k i) (r.finished_up i t l h);
    begun = λ i t l h. given_up (k i) (r.begun i t l h);
    one_open = λ i t l h. one (k i) (r.one_open i t l h);
    done = λ i t l h. (let x = r.done i t l h in (x.0, x.1, ap (given (k i)) x.2, given_up (k i) x.3));
    offered = λ i t l h. given_up (k i) (r.offered i t l h);
    left = λ i t l h. given_strict (k i) (r.left i t l h);
    conserves = λ i t l h w. omega (
      arith,
      r.conserves i t l h (unset (k i) w),
      sum_split k (λ j. c.units j t) n,
      sum_split k (λ j. c.units j (suc t)) n,
    );
    blocked = blocked;
  }
    where
      one : (b : Bool) {x y : ℕ} → x ≤ suc y → given b x ≤ suc (given b y)
      one true l = l
      one false l = omega arith

      unset : (b : Bool) {x y : ℕ} → given b x < given b y → x < y
      unset true l = l
      unset false l = absurd (omega arith)

  module _ (N M : ℕ) (a e : ℕ → ℕ → ℕ) (s : ℕ → ℕ) where
    pub set-within : Within n N M c a e s → Within n N M (only n k c) (arrivals_only k a) e s
    unfolding only
    set-within w = record {
      arrive = λ i t d l h. come (k i) _ _ _ (w.arrive i t d l h);
      charge = λ i t u l h m. cost (k i) (e i) _ _ (c.started i u) (c.started i t) (w.charge i t u l h m);
      supply = w.supply;
    }
      where
        come : (b : Bool) (x y z : ℕ) → x ≤ y + z → given b x ≤ given b y + given b z
        come true x y z l = l
        come false x y z l = omega arith

        cost : (b : Bool) (f : ℕ → ℕ) (x y p q : ℕ) → x ≤ y + f (p - q) → given b x ≤ given b y + f (given b p - given b q)
        cost true f x y p q l = l
        cost false f x y p q l = omega arith

  pub set_rising : (a e : ℕ → ℕ → ℕ) → Rising n a e → Rising n (arrivals_only k a) e
  set_rising a e cv = record { a_up = λ i d l. given_up (k i) (cv.a_up i d l); e_up = cv.e_up }

  -- the bound of x, one of the set, over the demand of the set
  module _ (N : ℕ) (a e : ℕ → ℕ → ℕ) (s : ℕ → ℕ) (M : ℕ) (fits : M ≤ N) (b b' : ℕ) (r : Run n M b c) (w : Within n N M c a e s) (cv : Rising n a e) (blocked : Blocked M b')
      (W : ℕ) (pos : 0 < W) (settles : demand n e (λ i. arrivals_only k a i W) + b' ≤ s W) where
    pub in_set : (x v j R : ℕ) → x < n → k x ≡ true → v < N → c.activated x v < j → j ≤ c.activated x (suc v) → Covers n e s b' (limit (arrivals_only k a) x) W R
        → v + R ≤ M → j ≤ c.finished x (v + R)
    unfolding only
    in_set x v j R l m hv lo hi cover h = omega (
      arith,
      is (c.finished x (v + R)),
      late n N (only n k c) (arrivals_only k a) e s M fits b' (set-run M b b' r blocked) (set-within N M a e s w) (set_rising a e cv) W pos settles x v j R l hv
          (omega (arith, is (c.activated x v))) (omega (arith, is (c.activated x (suc v)))) cover h,
    )
      where
        is : (y : ℕ) → given (k x) y ≡ y
        is y = ap (λ (b : Bool). given b y) m

-- all callbacks: nobody is outside
pub alone : (n N b : ℕ) (c : Counts) → Run n N b c → Blocked n (λ _. true) c N b
unfolding only
alone n N b c r t d h q o = omega (arith, r.blocked t d h q o, sum-none (λ i. 0) n (λ i _. refl))

-- ---- an urgent set

module _ (n M : ℕ) (feeds : ℕ → ℕ → Bool) (v : Events) (z : States) (l : Local n M feeds v z) (k : ℕ → Bool) (u : Urgent n M feeds k v z)
    (act : ℕ → ℕ → ℕ) (act-in : (i t : ℕ) → i < n → act i t ≡ sum t (v.arrives i) + fed feeds n (λ p. act p t) i) where
  abbrev c : Counts
  c = counts act v

  -- one of the set whose activations have not all finished by the end of tick t waits after that tick's arrivals
  waits : (i t : ℕ) → i < n → t < M → k i ≡ true → sum (suc t) (v.finishes i) < act i (suc t) → 0 < z.waiting i t + v.arrives i t
  unfolding sum
  waits i t m h e o = omega (
    arith,
    act-in i (suc t) m,
    fed-none feeds i (λ p. act p (suc t)) n (u.unfed i m e),
    inflow n M feeds v z l i (suc t) m h,
    fed-none feeds i (λ p. sum (suc t) (v.finishes p)) n (u.unfed i m e),
    l.queue i t m h,
    fed-none feeds i (λ p. v.finishes p t) n (u.unfed i m e),
  )

  -- so nobody else starts in that tick
  no_start : (j t : ℕ) → j < n → t < M → k j ≡ false → Open n (only n k c) (suc t) → v.starts j t ≡ 0
  unfolding only counts
  no_start j t m h e o = go (k o.0) refl o.2
    where
      go : (b : Bool) → k o.0 ≡ b → given b (sum (suc t) (v.finishes o.0)) < given b (act o.0 (suc t)) → v.starts j t ≡ 0
      go true q w = u.first o.0 j t o.1 m h q e (waits o.0 t o.1 h q w)
      go false q w = absurd (omega arith)

  -- what others spend stays as it is
  spent_same : (j t d : ℕ) → j < n → k j ≡ false → t + d ≤ M → Busy n (only n k c) t (t + d)
      → sum (t + d) (λ x. v.starts j x * v.cost x) ≡ sum t (λ x. v.starts j x * v.cost x)
  unfolding sum
  spent_same j t zero m e h o = rw add-zero refl
  spent_same j t (suc d) m e h o = rw add-suc (omega (
    arith,
    spent_same j t d m e (omega arith) (λ x p q. o x p (omega arith)),
    ap (λ (y : ℕ). y * v.cost (t + d)) (no_start j (t + d) m (omega arith) e (o (suc (t + d)) (omega arith) (omega arith))),
    zero-mul (v.cost (t + d)),
  ))

  -- and they get no more than what was left
  pub few_units : (j t d : ℕ) → j < n → k j ≡ false → t + d ≤ M → Busy n (only n k c) t (t + d) → sum (t + d) (v.works j) ≤ sum t (v.works j) + z.left j t
  few_units j t d m e h o = omega (arith, spent_same j t d m e h o, work_count n M feeds v z l j (t + d) m h, work_count n M feeds v z l j t m (omega arith))

  module _ (N : ℕ) (a e : ℕ → ℕ → ℕ) (s : ℕ → ℕ) (w : Within n N M c a e s) (cv : Rising n a e) where
    -- what is left of a started instance: it cost E(1) at most, and had a unit when it started
    pub left_less : (j t : ℕ) → j < n → t ≤ M → z.left j t < e j 1
    unfolding sum counts
    left_less j zero m h = omega (arith, l.fresh-left j m, cv.e_up j 0 m)
    left_less j (suc t) m h = go (le_or_lt 1 (v.starts j t)) (left_less j t m (omega arith))
      where
        go : (1 ≤ v.starts j t) ⊎ (v.starts j t < 1) → z.left j t < e j 1 → z.left j (suc t) < e j 1
        go (inr p) r = omega (arith, l.work j t m h, ap (λ (y : ℕ). y * v.cost t) none, zero-mul (v.cost t))
          where
            none : v.starts j t ≡ 0
            none = omega arith
        go (inl p) r = omega (
          arith,
          l.work j t m h,
          ap (λ (y : ℕ). y * v.cost t) one,
          one-mul (v.cost t),
          l.none_left j t m (omega arith) (omega (arith, l.turn j t m h, l.clear j t m h)),
          u.at_once j t m h,
          w.charge j t (suc t) m (omega arith) h,
          ap (e j) gone,
        )
          where
            one : v.starts j t ≡ 1
            one = omega (arith, l.turn j t m h, l.clear j t m h)

            gone : sum t (v.starts j) + v.starts j t - sum t (v.starts j) ≡ 1
            gone = omega (arith, one)

    -- B covers what is left of one of the rest, and only one of them has something left
    pub set_blocked : (B : ℕ) → ((j : ℕ) → j < n → k j ≡ false → e j 1 ≤ suc B) → Blocked n k c M B
    unfolding only counts
    set_blocked B most t d h _ o = omega (
      arith,
      sum-le (λ j. given (not (k j)) (sum (t + d) (v.works j))) (λ j. given (not (k j)) (sum t (v.works j)) + rest j) n (λ j m. each j m (k j) refl),
      sum-add (λ j. given (not (k j)) (sum t (v.works j))) rest n,
      together (all_or_one rest (λ _. 0) n),
      sum-none v.extra (t + d) (λ x m. u.no_other x (omega arith)),
    )
      where
        rest : ℕ → ℕ
        rest j = given (not (k j)) (z.left j t)

        each : (j : ℕ) → j < n → (b : Bool) → k j ≡ b → given (not b) (sum (t + d) (v.works j)) ≤ given (not b) (sum t (v.works j)) + given (not b) (z.left j t)
        each j m true q = omega arith
        each j m false q = few_units j t d m q h o

        together : ((j : ℕ) → j < n → rest j ≤ 0) ⊎ ((j : ℕ) × (j < n) × (0 < rest j)) → sum n rest ≤ B
        together (inl f) = omega (arith, sum-none rest n (λ j m. omega (arith, f j m)))
        together (inr x) = omega (arith, sum_one rest n x.0 x.1 (λ j m p. zero_but j m p), is_left (k x.0) refl)
          where
            zero_but : (j : ℕ) → j < n → j ≢ x.0 → rest j ≡ 0
            zero_but j m p = pick (k j) refl (le_or_lt 1 (z.running j t))
              where
                runs : (b : Bool) → given (not b) (z.left x.0 t) ≢ 0 → (1 ≤ z.running x.0 t) ⊎ (z.running x.0 t < 1) → 0 < z.running x.0 t
                runs b w (inl r) = r
                runs true w (inr r) = absurd (w refl)
                runs false w (inr r) = absurd (w (l.none_left x.0 t x.1 (omega arith) (omega arith)))

                pick : (b : Bool) → k j ≡ b → (1 ≤ z.running j t) ⊎ (z.running j t < 1) → given (not b) (z.left j t) ≡ 0
                pick true q _ = refl
                pick false q (inr r) = l.none_left j t m (omega arith) (omega arith)
                pick false q (inl r) = absurd (p (u.single j x.0 t m x.1 (omega arith) r
                    (runs (k x.0) (λ w. omega (arith, x.2)) (le_or_lt 1 (z.running x.0 t)))))

            is_left : (b : Bool) → k x.0 ≡ b → given (not b) (z.left x.0 t) ≤ B
            is_left true q = omega arith
            is_left false q = omega (arith, left_less x.0 t x.1 (omega arith), most x.0 x.1 q)
