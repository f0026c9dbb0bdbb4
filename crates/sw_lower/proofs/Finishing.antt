-- A function that is finished is the one that is made of its body.
use Rattle.std.proofs.Common.{◌≡◌, ℕ, Bool, List, Result, Ok, length, ap, sym, ◌∙◌}
use Rattle.sw_types.specs.declared.ty.Ty.{Ty}
use Rattle.sw_graph.specs.declared.function.Function.{Function}
use Rattle.sw_lower_plans.specs.Plan.{Numbers}
use Rattle.sw_lower_plans.specs.Run.{Making, at_start}
use Rattle.sw_lower_code.specs.Whole.{Body, code_of, ended_by, lower_body, sending_of}
use Rattle.sw_lower_code.specs.declared.fault.BodyFault.{BodyFault}
use Rattle.sw_lower.specs.Lowered.{finished_by}

module _ (number : Numbers) (body : Body) (s t : Making)
    (start : s ≡ at_start number body.key body.iso body.is_async)
    (run : (code_of body).run s ≡ Ok (tt, t)) where
  pub finishes : (result : Result Function BodyFault) (takes : ℕ) (sending : List Bool)
      (sends : Bool) (gives : Ty) → takes ≡ length body.takes → sending ≡ sending_of body
      → sends ≡ body.sends → gives ≡ body.result
      → result ≡ finished_by body.key takes sending sends gives t → result ≡ lower_body number body
  unfolding lower_body
  finishes result takes sending sends gives takes_is sending_is sends_is gives_is is =
      is
      ∙ ap (λ n. finished_by body.key n sending sends gives t) takes_is
      ∙ ap (λ list. finished_by body.key (length body.takes) list sends gives t) sending_is
      ∙ ap (λ b. finished_by body.key (length body.takes) (sending_of body) b gives t) sends_is
      ∙ ap (λ ty. finished_by body.key (length body.takes) (sending_of body) body.sends ty t)
      gives_is
      ∙ sym (ap (λ r. ended_by body r) (sym (ap (code_of body).run start) ∙ run))
