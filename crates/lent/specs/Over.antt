-- A list with other elements from place k on (document 01: 'touches no place beyond n', 'leaves the lent bytes untouched').
use Rattle.std.specs.Prelude.{ℕ, ◌+◌, List, ◌++◌, length, take, drop}

-- b with vs in the places from k on, and every other place kept
unfoldable pub over : List ℕ → ℕ → List ℕ → List ℕ
over b k vs = take k b ++ (vs ++ drop (k + length vs) b)
