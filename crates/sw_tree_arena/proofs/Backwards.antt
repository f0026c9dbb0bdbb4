-- Parts in order, from the last to the first.
use Rattle.std.proofs.Common.{◌≡◌, ◌∙◌, refl, ap, ℕ, ◌+◌, ◌<◌, List, [], ◌∷◌, ◌++◌, length}
use Rattle.std.proofs.Common.{Bool, true, false, take, get_or, arith}
use Rattle.std.proofs.Math.Seq.{take-length}
use Rattle.std.proofs.lemmas.List.{length-take-le, take_more}
use Rattle.sw_tree.specs.declared.stmt.Pattern.{Pattern}
use Rattle.sw_tree.specs.declared.stmt.Pattern.TheVariants.{Skip, Let}
use Rattle.sw_isolation_rules.specs.declared.note.Capture.{Capture}
use Rattle.sw_tree_work.specs.Forms.{captured, patterns_work}
use Rattle.sw_tree_work.specs.Work.{Before, Payload, Then, Work}
use Rattle.sw_tree_arena.specs.Parts.{capture_work, each_before, pattern_work}

pub each_last : {A : Type 0} (work : A → Before) (xs : List A) (x : A) (rest : Work)
    → each_before work (xs ++ x ∷ []) rest ≡ each_before work xs (work x rest)
unfolding each_before
each_last work [] x rest = refl
each_last work (y ∷ xs) x rest = ap (work y) (each_last work xs x rest)

pub each_none : {A : Type 0} (work : A → Before) (xs : List A) (rest : Work) → length xs ≡ 0
    → each_before work xs rest ≡ rest
unfolding each_before
each_none work [] rest none = refl
each_none work (x ∷ xs) rest none = absurd (omega arith)

pub ruleset backwards = (each_last, each_none)

first_captured : (shared : Bool) (one : Capture) (captures : List Capture) (rest : Work)
    → one.by_ref ≡ shared
    → captured (one ∷ captures) rest ≡ capture_work one (captured captures rest)
first_captured true one captures rest is = rw is refl
first_captured false one captures rest is = rw is refl

pub captured_each : (captures : List Capture) (rest : Work)
    → captured captures rest ≡ each_before capture_work captures rest
unfolding each_before
captured_each [] rest = refl
captured_each (one ∷ captures) rest = first_captured one.by_ref one captures rest refl
    ∙ ap (capture_work one) (captured_each captures rest)

one_less : (number : ℕ) (first : Pattern) (patterns : List Pattern)
    → number + 1 + length patterns ≡ number + length (first ∷ patterns)
one_less number first patterns = omega arith

-- the first patterns, before one more
patterns_from : (number : ℕ) (patterns : List Pattern) (pattern : Pattern) (rest : Work)
    → patterns_work number (patterns ++ pattern ∷ []) rest
    ≡ patterns_work number patterns (pattern_work (number + length patterns) pattern rest)
patterns_from number [] (Skip at) rest = refl
patterns_from number [] (Let name) rest =
    let e : number ≡ number + length {A = Pattern} [] = omega arith in
    ap (λ n. Then (Payload name.at n) rest) e
patterns_from number (Skip at ∷ patterns) pattern rest =
    patterns_from (number + 1) patterns pattern rest
    ∙ ap (λ n. patterns_work (number + 1) patterns (pattern_work n pattern rest))
    (one_less number (Skip at) patterns)
patterns_from number (Let name ∷ patterns) pattern rest =
    ap (Then (Payload name.at number)) (patterns_from (number + 1) patterns pattern rest
    ∙ ap (λ n. patterns_work (number + 1) patterns (pattern_work n pattern rest))
    (one_less number (Let name) patterns))

pub patterns_next : (patterns : List Pattern) (i : ℕ) (last : Pattern) (rest : Work)
    → i < length patterns → patterns_work 0 (take (i + 1) patterns) rest
    ≡ patterns_work 0 (take i patterns) (pattern_work i (get_or patterns i last) rest)
patterns_next patterns i last rest inside =
    let short : length (take i patterns) ≡ i = length-take-le i patterns (omega arith) in
    let e : 0 + length (take i patterns) ≡ i = omega arith in
    ap (λ some. patterns_work 0 some rest) (take_more patterns i last inside)
    ∙ patterns_from 0 (take i patterns) (get_or patterns i last) rest
    ∙ ap (λ n. patterns_work 0 (take i patterns) (pattern_work n (get_or patterns i last) rest)) e

pub whole_patterns : (patterns : List Pattern) (rest : Work)
    → patterns_work 0 (take (length patterns) patterns) rest ≡ patterns_work 0 patterns rest
whole_patterns patterns rest = ap (λ some. patterns_work 0 some rest) (take-length patterns)
