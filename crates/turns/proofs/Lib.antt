-- ChooseLaws: step 3 where nothing runs. TurnLaws: step 3 with what runs, and step 4.
pub mod ChooseLaws
pub mod TurnLaws
