-- A line of text as a person writes it: words with single spaces between them, and a comment behind `#`.
use Rattle.std.specs.Prelude.{Bool, true, false, ◌&&◌, ◌||◌, List, [], ◌∷◌, ℕ, ◌-◌, eqb, length, take, count_by, slice_index_or}
use Rattle.std.specs.List.{suffix_len, slice_split}
use Rattle.replay_lexer.specs.Lines.{until}

-- a space, a tab or a carriage return
abbrev pub is_blank : ℕ → Bool
is_blank x = eqb x 32 || (eqb x 9 || eqb x 13)

-- a text without the blanks at its end
unfoldable pub trimmed : List ℕ → List ℕ
trimmed s = take (length s - suffix_len is_blank s) s

-- the content of a line: what stands before the first `#`, without the blanks at its end
unfoldable pub content : List ℕ → List ℕ
content line = trimmed (until 35 line)

-- word k of a text, counted from 0; nothing where there are fewer
unfoldable pub word_at : List ℕ → ℕ → List ℕ
word_at s k = slice_index_or (slice_split (λ x. eqb x 32) s) k []

-- how many words stand behind the first: as many as there are spaces
unfoldable pub words_behind : List ℕ → ℕ
words_behind s = count_by (λ x. eqb x 32) s

-- whether two spaces stand together, in a text that follows a space or does not
unfoldable pub gap_after : Bool → List ℕ → Bool
gap_after space [] = false
gap_after space (x ∷ l) = (space && eqb x 32) || gap_after (eqb x 32) l

-- whether two spaces stand together or one in front
unfoldable pub has_gap : List ℕ → Bool
has_gap s = gap_after true s
