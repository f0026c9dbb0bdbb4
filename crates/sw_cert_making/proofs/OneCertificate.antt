-- A graph has one certificate with the lines of its least annotations.
use Rattle.std.proofs.Common.{◌≡◌, ℕ, inl, inr, List, Contains, sym, subst, ap, ◌∙◌, arith}
use Rattle.std.proofs.lemmas.Option.{same_Some}
use Rattle.std.specs.List.{slice_get}
use Rattle.sw_graph.specs.declared.function.Function.{Function}
use Rattle.sw_graph.specs.declared.graph.Graph.{Graph}
use Rattle.sw_region_flow.proofs.Deciding.{Decided}
use Rattle.sw_region_flow.specs.Analysis.{IsLeastOfFunction}
use Rattle.sw_region_ops.specs.Setting.{setting_of}
use Rattle.sw_solve.specs.Annotation.{value_at}
use Rattle.sw_cert_making.proofs.Accepted.{one_least, shows_copy, tell_line}
use Rattle.sw_cert_making.proofs.Bared.{least_is_reached}
use Rattle.sw_cert_making.proofs.OneShown.{one_line_shown}
use Rattle.sw_cert_making.proofs.Rising.{rising_is_one}
use Rattle.sw_cert_making.specs.Printed.{HasLineOf, IsLeastCertificate, IsLeastLine, IsLineBefore}
use Rattle.sw_cert.specs.ReadLines.{text_of}
use Rattle.sw_cert.specs.Shown.{Shows}
use Rattle.sw_cert.specs.declared.line.Line.{Line}

not_both : (a b : Line) → IsLineBefore a b → IsLineBefore b a → ⊥
not_both a b (inl first) (inl second) = omega (arith, first, second)
not_both a b (inl first) (inr second) = omega (arith, first, second.0)
not_both a b (inr first) (inl second) = omega (arith, first.0, second)
not_both a b (inr first) (inr second) = omega (arith, first.1, second.1)

-- two lines of one block that show what least annotations have there are one
one_least_line : (graph : Graph) (a b : Line) → IsLeastLine graph a → IsLeastLine graph b
    → a.function ≡ b.function → a.block ≡ b.block → a ≡ b
one_least_line graph a b first second function block =
    let bodies : second.body ≡ first.body = same_Some second.body first.body
    (sym second.is_body ∙ ap (slice_get graph.functions) (sym function) ∙ first.is_body) in
    let least = subst (λ (body : Function). IsLeastOfFunction (setting_of graph body) second.states)
    bodies second.least in
    let copy = one_least (setting_of graph first.body) first.states second.states first.least least
    a.block first.state first.stands in
    let state : second.state ≡ copy.0 = same_Some second.state copy.0
    (sym second.stands ∙ ap (value_at second.states) (sym block) ∙ copy.1) in
    one_line_shown a b first.state function block first.shows
    (shows_copy b copy.0 first.state copy.2 (subst (Shows b) state second.shows))

-- each line of one certificate stands in each other
line_in : (graph : Graph) (text other : List ℕ) → (first : IsLeastCertificate graph text)
    → (second : IsLeastCertificate graph other) → (line : Line) → Contains first.lines line
    → Contains second.lines line
line_in graph text other first second line has =
    by (tell_line second.lines line.function line.block)
  where
    is : IsLeastLine graph line
    is = first.least line has

    by : Decided (HasLineOf second.lines line.function line.block) → Contains second.lines line
    by (inl there) = subst (Contains second.lines)
        (one_least_line graph there.line line (second.least there.line there.is_line) is
        there.function_is there.block_is) there.is_line
    by (inr none) = absurd (least_is_reached
        (record { setting = setting_of graph is.body; sites = is.least.sites }) is.least.fits
        is.states is.least.least line.block is.state is.stands
        (λ way. none (second.all line.function is.body line.block is.is_body way)))

pub one_certificate : (graph : Graph) (text other : List ℕ) → IsLeastCertificate graph text
    → IsLeastCertificate graph other → text ≡ other
one_certificate graph text other first second = first.spelled
    ∙ ap text_of (rising_is_one IsLineBefore not_both first.lines second.lines first.rising
    second.rising (line_in graph text other first second) (line_in graph other text second first))
    ∙ sym second.spelled
