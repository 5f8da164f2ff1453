-- The bytes behind the last that is no blank are blanks.
use Rattle.std.proofs.Common.{ℕ, ◌≡◌, ◌+◌, ◌-◌, ◌<◌, ◌≤◌, length, get_or, true, false, rules, arith}
use Rattle.std.proofs.iter.runs.Made.{chains}
use Rattle.std.proofs.lemmas.List.Sums.{suffix_len_is}
use Rattle.replay_lexer.specs.Words.{is_blank, trimmed}
use Rattle.replay_lexer.proofs.words.trimmed.Goals as goal

pub returns-in-Some : goal.returns-in-Some
unfolding trimmed
returns-in-Some c =
    let s = c.args.s.now in
    let last = c.in-Some.last in
    let behind : (k : ℕ) → last + 1 ≤ k → k < length s → is_blank (get_or s k 0) ≡ true = λ k a b. search (rules, chains) in
    let other : is_blank (get_or s last 0) ≡ false = search (rules, chains) in
    let within : last < length s = search (rules, chains) in
    let same : last + 1 - 1 ≡ last = omega arith in
    let e = suffix_len_is is_blank s (last + 1) 0 (omega arith) behind (λ h. rw same other) in
    let n : length s - (length s - (last + 1)) ≡ last + 1 = omega arith in
    rw (e, n)

pub returns-in-None : goal.returns-in-None
unfolding trimmed
returns-in-None c =
    let s = c.args.s.now in
    let all : (k : ℕ) → 0 ≤ k → k < length s → is_blank (get_or s k 0) ≡ true = λ k a b. search (rules, chains) in
    let e = suffix_len_is is_blank s 0 0 (omega arith) all (λ h. absurd (omega arith)) in
    let n : length s - (length s - 0) ≡ 0 = omega arith in
    rw (e, n)
