-- The function of a body takes what the body takes, and gives what it gives.
use Rattle.std.proofs.Common.{◌≡◌, List, ◌++◌, length, map, refl, ap, take, ◌∙◌, sym}
use Rattle.std.proofs.lemmas.List.{length-map}
use Rattle.std.proofs.Math.Seq.{take-append_seam}
use Rattle.sw_graph.specs.Kinds.{taken}
use Rattle.sw_graph.specs.declared.function.RegKind.{RegKind}
use Rattle.sw_lower_plans.specs.Plan.{Numbers}
use Rattle.sw_lower_code.specs.Whole.{Body, function_of}
use Rattle.sw_lower_code.specs.declared.taken.Taken.{Taken}
use Rattle.sw_lower_code.proofs.Takes.{begins_with_takes}

-- the kinds of what a body takes
abbrev pub kinds_of : Body → List RegKind
kinds_of body = map (λ (taken : Taken). taken.kind) body.takes

-- The function of a body takes what the body takes.
pub takes_of : (number : Numbers) (body : Body) → taken (function_of number body) ≡ kinds_of body
unfolding function_of
takes_of number body =
    let begins = begins_with_takes number body in
    ap (take (length body.takes)) begins.1
    ∙ ap (λ n. take n (kinds_of body ++ begins.0))
    (sym (length-map body.takes (λ (taken : Taken). taken.kind)))
    ∙ take-append_seam (kinds_of body) begins.0

-- and gives what the body gives
pub gives_of : (numbers : Numbers) (body : Body) → (function_of numbers body).result ≡ body.result
unfolding function_of
gives_of numbers body = refl
