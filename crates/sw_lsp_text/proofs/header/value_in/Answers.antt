use Rattle.std.proofs.Common.{◌≡◌, ◌+◌, take, drop, option_map, sym, ◌∙◌, arith, rules}
use Rattle.std.proofs.lemmas.Grind.{common_steps}
use Rattle.sw_lsp_text.specs.Header.{value_of, value_in}
use Rattle.sw_lsp_text.proofs.Lines.{last_line, value_here, value_later}
use Rattle.sw_lsp_text.proofs.header.value_in.Goals as goal

pub returns-in-Some-value_of : goal.returns-in-Some-value_of
returns-in-Some-value_of c =
    let e : option_map (λ v. v.now) c.value_of.result ≡ value_of (take c.in-Some.end c.loop-end.rest.now) =
    first_of (search rules, grind (arith, common_steps)) in
    value_here c.loop-end.rest.now c.in-Some.end c.in-Some.ensures (value_in c.args.lines.now)
    c.in-Some-value_of.value.now (rw c.in-Some-value_of.is at e) c.loop-end.invariant

pub loop-end-preserved : goal.loop-end-preserved
loop-end-preserved c =
    let e : option_map (λ v. v.now) c.value_of.result ≡ value_of (take c.in-Some.end c.loop-end.rest.now) =
    first_of (search rules, grind (arith, common_steps)) in
    let later : value_in (drop (c.in-Some.end + 1) c.loop-end.rest.now) ≡ value_in c.args.lines.now =
    value_later c.loop-end.rest.now c.in-Some.end c.in-Some.ensures (value_in c.args.lines.now)
    (rw c.in_default-value_of.is at e) c.loop-end.invariant in
    first_of (cc, grind (arith, common_steps))

pub returns : goal.returns
returns c =
    c.value_of-2.ensures ∙ sym (last_line c.loop-end.rest.now c.in_default.ensures) ∙ c.loop-end.invariant
