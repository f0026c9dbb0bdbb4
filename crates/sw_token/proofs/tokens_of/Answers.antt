use Rattle.std.proofs.Common.{◌≡◌, ℕ, List, ◌<◌, ◌+◌, ◌≤◌, Ok, length, take, drop, sym, ap, ◌∙◌}
use Rattle.std.proofs.Common.{inl, inr, arith}
use Rattle.std.proofs.lemmas.List.{length-drop, length-take-le, drop-drop}
use Rattle.std.proofs.lemmas.Result.{err_from_is_err_and}
use Rattle.std.proofs.lemmas.Str.{IsCharBoundary-from_drop}
use Rattle.sw_scan.specs.declared.Step.TheVariants.{Skip, Take}
use Rattle.sw_scan.proofs.Turns as turns
use Rattle.sw_token.specs.Tokens.{at_start, IsTaken, token_of, past_token}
use Rattle.sw_token.specs.Reading.{step, tokens_or_fault}
use Rattle.sw_token.proofs.KindLemmas.{found_fits}
use Rattle.sw_token.proofs.Steps.{agrees, found_taken}
use Rattle.sw_token.proofs.tokens_of.Goals as goal
use Rattle.sw_token.proofs.tokens_of.Goals.{In-Skip, In-Take}

pub loop-tokens-init : goal.loop-tokens-init
unfolding tokens_or_fault
loop-tokens-init c =
    rw (c.new-tokens.ensures.items, c.at_start-before.ensures)
    (turns.starts agrees c.args.text.now at_start c.utf8.text)

pub range_from-rest-requires : goal.range_from-rest-requires
range_from-rest-requires c =
    λ some. IsCharBoundary-from_drop c.args.text.now c.loop-tokens.at
    c.loop-tokens.invariant.inside c.loop-tokens.invariant.sound

skip_is : (c : In-Skip)
    → step c.loop-tokens.at c.loop-tokens.before (drop c.loop-tokens.at c.args.text.now)
    ≡ Ok (Skip c.in-Skip.len)
skip_is c =
    let called = rw c.range_from-rest.ensures.value at c.step.ensures in
    let found = c.in_ok-step.was in
    let is = c.in-Skip.is in
    cc

take_is : (c : In-Take)
    → step c.loop-tokens.at c.loop-tokens.before (drop c.loop-tokens.at c.args.text.now)
    ≡ Ok (Take c.in-Take.len)
take_is c =
    let called = rw c.range_from-rest.ensures.value at c.step.ensures in
    let found = c.in_ok-step.was in
    let is = c.in-Take.is in
    cc

skip_ahead : (c : In-Skip)
    → (0 < c.in-Skip.len) × (c.loop-tokens.at + c.in-Skip.len ≤ length c.args.text.now)
skip_ahead c =
    let ahead = turns.ahead agrees c.loop-tokens.invariant c.in-Skip.len (inl (skip_is c)) in
    (ahead.0, ahead.1)

take_ahead : (c : In-Take)
    → (0 < c.in-Take.len) × (c.loop-tokens.at + c.in-Take.len ≤ length c.args.text.now)
take_ahead c =
    let ahead = turns.ahead agrees c.loop-tokens.invariant c.in-Take.len (inr (take_is c)) in
    (ahead.0, ahead.1)

token_is : (c : In-Take)
    → IsTaken c.loop-tokens.before
    (take c.in-Take.len (drop c.loop-tokens.at c.args.text.now))
    (drop c.in-Take.len (drop c.loop-tokens.at c.args.text.now))
token_is c =
    found_taken c.loop-tokens.at c.loop-tokens.before (drop c.loop-tokens.at c.args.text.now)
    c.in-Take.len c.loop-tokens.invariant.sound (take_is c)

pub returns-in_err-step : goal.returns-in_err-step
returns-in_err-step c =
    let called = rw c.range_from-rest.ensures.value at c.step.ensures in
    let found = c.in_err-step.was in
    let p = err_from_is_err_and c.from_residual.result c.from_residual.ensures.1 in
    rw (p.1, p.2) (λ _. turns.fails_with agrees c.loop-tokens.invariant _ (cc))

pub returns-in-End : goal.returns-in-End
returns-in-End c =
    let called = rw c.range_from-rest.ensures.value at c.step.ensures in
    let found = c.in_ok-step.was in
    let is = c.in-End.is in
    turns.ends_with agrees c.loop-tokens.invariant (cc)

pub overflow_add-at : goal.overflow_add-at
overflow_add-at c = let ahead = skip_ahead (goal.at.overflow_add-at c).In-Skip in omega arith

pub loop-tokens-smaller-in-Skip : goal.loop-tokens-smaller-in-Skip
loop-tokens-smaller-in-Skip c =
    let ahead = skip_ahead (goal.at.loop-tokens-smaller-in-Skip c).In-Skip in
    omega arith

pub loop-tokens-preserved-in-Skip : goal.loop-tokens-preserved-in-Skip
loop-tokens-preserved-in-Skip c =
    let on = turns.skips_on agrees c.loop-tokens.invariant c.in-Skip.len
    (skip_is (goal.at.loop-tokens-preserved-in-Skip c).In-Skip) in
    rw (
      c.past_piece-before.ensures,
      c.as_bytes-bytes.ensures.value,
      c.range_from-rest.ensures.value,
    ) on

pub token_of-requires-clause-fits : goal.token_of-requires-clause-fits
token_of-requires-clause-fits c =
    rw (c.as_bytes-bytes.ensures.value, c.range_from-rest.ensures.value)
    (found_fits c.loop-tokens.at c.loop-tokens.before (drop c.loop-tokens.at c.args.text.now)
    c.in-Take.len c.loop-tokens.invariant.sound
    (take_is (goal.at.token_of-requires-clause-fits c).In-Take))

pub token_of-requires-clause-len : goal.token_of-requires-clause-len
token_of-requires-clause-len c =
    let ahead = take_ahead (goal.at.token_of-requires-clause-len c).In-Take in
    let inside : c.in-Take.len ≤ length (drop c.loop-tokens.at c.args.text.now) =
    omega (arith, length-drop c.loop-tokens.at c.args.text.now) in
    rw (c.as_bytes-bytes.ensures.value, c.range_from-rest.ensures.value) inside

pub token_of-requires-clause-within : goal.token_of-requires-clause-within
token_of-requires-clause-within c =
    let ahead = take_ahead (goal.at.token_of-requires-clause-within c).In-Take in
    omega arith

pub past_token-before-requires : goal.past_token-before-requires
past_token-before-requires c =
    let few = (token_is (goal.at.past_token-before-requires c).In-Take).few in
    omega arith

pub overflow_add-at-in-Take : goal.overflow_add-at-in-Take
overflow_add-at-in-Take c =
    let ahead = take_ahead (goal.at.overflow_add-at-in-Take c).In-Take in
    omega arith

pub loop-tokens-smaller : goal.loop-tokens-smaller
loop-tokens-smaller c =
    let ahead = take_ahead (goal.at.loop-tokens-smaller c).In-Take in
    omega arith

pub loop-tokens-preserved : goal.loop-tokens-preserved
loop-tokens-preserved c =
    let on = turns.takes_on agrees c.loop-tokens.invariant c.in-Take.len
    (take_is (goal.at.loop-tokens-preserved c).In-Take) in
    let rest = c.as_bytes-bytes.ensures.value ∙ c.range_from-rest.ensures.value in
    let after : drop c.in-Take.len (drop c.loop-tokens.at c.args.text.now)
    ≡ drop (c.loop-tokens.at + c.in-Take.len) c.args.text.now =
    drop-drop c.in-Take.len c.loop-tokens.at c.args.text.now in
    let text = take c.in-Take.len (drop c.loop-tokens.at c.args.text.now) in
    let made : c.token_of.result
    ≡ token_of c.loop-tokens.at c.loop-tokens.before text
    (drop (c.loop-tokens.at + c.in-Take.len) c.args.text.now) =
    c.token_of.ensures
    ∙ (ap
    (λ xs. token_of c.loop-tokens.at c.loop-tokens.before (take c.in-Take.len xs)
    (drop c.in-Take.len xs)) rest
    ∙ ap (token_of c.loop-tokens.at c.loop-tokens.before text) after) in
    let past =
    c.past_token-before.ensures
    ∙ ap (λ xs. past_token c.loop-tokens.before (take c.in-Take.len xs)) rest in
    rw (past, c.in_ok-push-in-Take.ensures.items, made) on

-- a part that was found lies in the bytes that are left
within_rest : (text bytes : List ℕ) (at n : ℕ) → bytes ≡ drop at text → at + n ≤ length text
    → n ≡ length (take n bytes)
within_rest text bytes at n rest inside =
    let within : n ≤ length bytes = omega (arith, ap length rest, length-drop at text) in
    sym (length-take-le n bytes within)

pub slice_bounds-past_piece-end : goal.slice_bounds-past_piece-end
slice_bounds-past_piece-end c =
    let ahead = skip_ahead (goal.at.slice_bounds-past_piece-end c).In-Skip in
    within_rest c.args.text.now c.as_bytes-bytes.result.now c.loop-tokens.at c.in-Skip.len
    (c.as_bytes-bytes.ensures.value ∙ c.range_from-rest.ensures.value) ahead.1

pub slice_bounds-past_token-end : goal.slice_bounds-past_token-end
slice_bounds-past_token-end c =
    let ahead = take_ahead (goal.at.slice_bounds-past_token-end c).In-Take in
    within_rest c.args.text.now c.as_bytes-bytes.result.now c.loop-tokens.at c.in-Take.len
    (c.as_bytes-bytes.ensures.value ∙ c.range_from-rest.ensures.value) ahead.1
