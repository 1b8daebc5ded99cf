-- The editions by their numbers.
use Rattle.std.specs.Prelude.{ℕ, cond, eqb, Result, Ok, Err}
use Rattle.numbers.specs.Numbers
use Rattle.table.specs.declared.editions.Edition.{Edition}
use Rattle.table.specs.declared.editions.Edition.TheVariants.{One, Two}
use Rattle.table.specs.declared.editions.UnknownEdition.{UnknownEdition}

-- the number of an edition
abbrev pub edition_number : Edition → ℕ
edition_number One = Numbers.edition_one
edition_number Two = Numbers.edition_two

-- the edition of a number, where one has it
abbrev pub edition_numbered : ℕ → Result Edition UnknownEdition
edition_numbered n =
    cond (eqb n Numbers.edition_one) (Ok One)
    (cond (eqb n Numbers.edition_two) (Ok Two) (Err (record { 0 = n })))
