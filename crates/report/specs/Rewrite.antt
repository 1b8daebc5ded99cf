-- How the program `normalise` ends, and what it writes from (document 02, U7).
use Rattle.std.specs.Prelude.{Bool, true, false, List, ◌≡◌, ℕ}
use Rattle.normaliser.specs.Normaliser.{normalise_fault, normalised}
use Rattle.report.specs.Status.{status_by, failed}

-- after the bytes b: what they are then, which is what is written where nothing is refused, and what the program may end with. Where a read failed
-- behind b they are as they were, and it ends with 2; else they are normalised, and it ends by their refusal and by whether all was written,
-- which only the system can tell.
unfoldable pub Rewrites : List ℕ → Bool → List ℕ → ℕ → Type 0
Rewrites b true after r = (after ≡ b) × (r ≡ failed)
Rewrites b false after r = (written : Bool) × (after ≡ normalised b) × (r ≡ status_by written (normalise_fault b))
