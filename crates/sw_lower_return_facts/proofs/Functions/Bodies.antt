-- The function of a body whose code ends each block that is reached returns its result.
use Rattle.std.proofs.Common.{◌≡◌, ℕ, zero, suc, inl, inr, true≢false, Bool, true, false, List, []}
use Rattle.std.proofs.Common.{◌∷◌, refl, ap, sym, ◌∙◌}
use Rattle.std.proofs.lemmas.List.Elements.{All-nil}
use Rattle.sw_types.specs.declared.ty.Ty.{Ty, out-Ty, roll-Ty, roll-out-Ty}
use Rattle.sw_types.specs.declared.ty.Ty.TheOpen as layer
use Rattle.sw_types.specs.declared.ty.Ty.TheVariants as types
use Rattle.sw_graph.specs.Supplied.{ReturnsResult}
use Rattle.sw_typing_rules.specs.Verdicts.{is_unit, unit_layer}
use Rattle.sw_lower_plans.specs.Plan.{Numbers}
use Rattle.sw_lower_code.specs.Code.{Code, all}
use Rattle.sw_lower_code.specs.Whole.{Body, code_of, enter, function_of, start_place}
use Rattle.sw_lower_code.specs.declared.taken.Taken.{Taken}
use Rattle.sw_lower_formed_facts.specs.Whole.{whole_of}
use Rattle.sw_lower_return_facts.specs.Flows.{CodeFlows, FlowAt, Flows, IsReached, LastFlows, Live}
use Rattle.sw_lower_return_facts.specs.Flows.{FlowsHere, FlowState, moved}
use Rattle.sw_lower_return_facts.specs.Forms.{BodyReturns}
use Rattle.sw_lower_return_facts.proofs.Flow.Marks.{extend_more, reached_later}
use Rattle.sw_lower_return_facts.proofs.Flow.Quiet.{flows_bind, flows_done, flows_reg}
use Rattle.sw_lower_return_facts.proofs.Flow.Then.{flow_then, flows_then}
use Rattle.sw_lower_return_facts.proofs.Functions.Reached.{returns_value}

-- The code leaves no block open that is reached. The first block of a function is reached.
abbrev pub CodeCloses : Code (Unit {0}) → Type 0
CodeCloses code = (s : FlowState) (live : Bool) (rest : List ℕ) → FlowsHere s live rest
    → IsReached s.marks 0 → FlowAt s code (λ _ t. Flows t rest)

-- a function where it begins: its first block is reached
abbrev beginning : Numbers → FlowState
beginning number =
    record { place = start_place number; marks = Live ∷ []; writes = []; lasts = [] }

first_only : (at : ℕ) → IsReached (Live ∷ []) at → at ≡ 0
first_only zero reached = refl
first_only (suc at) (inl is) = cc
first_only (suc at) (inr is) = cc

begins : (number : Numbers) → FlowsHere (beginning number) true []
begins number = record {
  flows = record {
    counted = refl;
    fresh = λ at above. refl;
    lasts = All-nil (LastFlows (Live ∷ []) []);
    closed = λ at reached. inl (inl (first_only at reached));
  };
  here = refl;
}

flows_enter : (takes : List Taken) → CodeFlows (all enter takes)
unfolding all
flows_enter [] = flows_done tt
flows_enter (taken ∷ takes) =
    flows_then (enter taken) _
    (flows_then _ _ (flows_reg taken.kind) (λ number. flows_bind _)) (λ _. flows_enter takes)

-- A type that counts as `Void` is `Void`.
unit_only : (form : layer.Ty-F Ty) → unit_layer form ≡ true → form ≡ layer.Unit
unit_only layer.Unit is = refl
unit_only _ is = absurd (true≢false (sym is))

unit_is : (ty : Ty) → is_unit ty ≡ true → ty ≡ types.Unit
unit_is ty is =
    sym (roll-out-Ty ty) ∙ ap roll-Ty (unit_only (out-Ty ty) is ∙ sym types.outs-Unit)
    ∙ roll-out-Ty types.Unit

code_closes : (body : Body) → CodeCloses body.code → CodeCloses (code_of body)
unfolding code_of
code_closes body closes s live rest stands first =
    flow_then s (all enter body.takes) (λ _. body.code) (λ _ t. FlowsHere t live rest)
    (λ _ t. Flows t rest) (flows_enter body.takes s live rest stands)
    (λ _ t extend in_t.
    closes t live rest in_t (reached_later s.marks t.marks 0 extend first))

gives_value : (number : Numbers) (body : Body) → CodeCloses body.code
    → ReturnsResult (function_of number body)
unfolding function_of
gives_value number body closes p passed way here =
    let end = code_closes body closes (beginning number) true [] (begins number) (inl refl) in
    absurd (returns_value (whole_of [] [] [] number body)
    (moved (beginning number) ((code_of body).plan (start_place number)) end.0) end.1
    (extend_more (Live ∷ []) end.0 0 Live refl) refl refl (function_of number body) refl p passed
    way here)

pub body_returns : (number : Numbers) (body : Body)
    → (is_unit body.result ≡ false → CodeCloses body.code) → BodyReturns number body
unfolding function_of
body_returns number body closes p passed way here = by (is_unit body.result) refl where
  by : (unit : Bool) → is_unit body.result ≡ unit → body.result ≡ types.Unit
  by true is = unit_is body.result is
  by false is = gives_value number body (closes is) p passed way here
