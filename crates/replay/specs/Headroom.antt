-- How much the program holds of the input, and of the answers that wait to be written.
use Rattle.std.specs.Prelude.{ℕ, ◌+◌, ◌≤◌}
use Rattle.text_writer.specs.TextWriter.{most_line}

abbrev pub capacity : ℕ
capacity = 65536

-- one more answer fits behind those that wait
abbrev pub HasHeadroom : ℕ → Type 0
HasHeadroom used = used + most_line ≤ capacity
