-- The code of a body is safe by what is shown of its block.
use Rattle.std.proofs.Common.{◌≡◌, ℕ, List, [], sym, subst, refl, Bool, true, false, Option, None}
use Rattle.std.proofs.Common.{Some}
use Rattle.std.proofs.lemmas.List.Elements.{All-cons, All-nil}
use Rattle.std.specs.Prelude.{All, if◌then◌else◌, slice_get}
use Rattle.sw_types.specs.Accepts.{IsAcceptedAs}
use Rattle.sw_types.specs.declared.ty.Ty.{Ty}
use Rattle.sw_graph.specs.Kinds.{Goes, value}
use Rattle.sw_graph.specs.Mentions.{last_registers}
use Rattle.sw_graph.specs.declared.function.Function.{Function}
use Rattle.sw_graph.specs.declared.instr.Last.TheVariants.{Return}
use Rattle.sw_graph.specs.declared.instr.Operand.{Operand}
use Rattle.sw_typing_rules.specs.Statements.{Left, State}
use Rattle.sw_typing_rules.specs.Verdicts.{is_unit}
use Rattle.sw_lower_plans.specs.Plan.{Numbers}
use Rattle.sw_lower_code.specs.Code.{Code, close, ◌>>◌}
use Rattle.sw_lower_rules.specs.Carriers.{BlockCode, no_targets}
use Rattle.sw_lower_rules.specs.Expressions.{body_code, with_result}
use Rattle.sw_lower_rules.specs.Tables.{Tables}
use Rattle.sw_lower_formed_facts.specs.Forms.{BlockOk, BodiesFit, GivesTo, IsBegun, ReturnsOk, TargetsOk}
use Rattle.sw_lower_formed_facts.specs.Forms.{Wherever}
use Rattle.sw_lower_formed_facts.specs.Ground.{IsOfGraph}
use Rattle.sw_lower_formed_facts.specs.Safe.{MadeLast, Keeps, Position, SafeAt, here}
use Rattle.sw_lower_formed_facts.specs.Whole.{IsSet, Whole}
use Rattle.sw_lower_formed_facts.proofs.Positions.Then.{safe_then, safe_weaker}
use Rattle.sw_lower_formed_facts.proofs.Positions.Using.{LastFits, close_in}

-- No `break` and no `continue` leads out of a body.
none_lead : (w : Whole) (p : Position) → TargetsOk w p no_targets
none_lead w p = record {
  breaks = λ number is. cc;
  continues = λ number is. cc;
}

-- A value goes where its type is accepted.
goes_by : (w : Whole) (q : Position) (result : Ty) (x : Operand) → w.result ≡ result
    → GivesTo w q result x → Goes (slice_get w.regs x.reg) (value w.result)
goes_by w q result x is gives =
    subst (λ kind. Goes kind (value w.result)) (sym gives.value.kind)
    (subst (IsAcceptedAs gives.ty) (sym is) gives.accepted)

module _ (tables : Tables) (number : Numbers) (functions : List Function) (owner : Option ℕ) where
  -- the last instruction of a body
  return_in : (w : Whole) (of : IsOfGraph tables functions w) (q : Position)
      (given : Option Operand)
      → LastFits tables functions w of (Return given)
      → All (IsSet w q.writes (here q)) (last_registers (Return given))
      → (Post : Type 0) → Post → SafeAt w q (close (Return given)) (λ _ _. Post)
  return_in w of q given fits set Post post =
      safe_weaker w q (close (Return given)) (λ _. MadeLast w q) (λ _ _. Post)
      (close_in tables functions w of q (Return given) fits set (λ n to is. cc))
      (λ _ s in_s closed. post)

  -- The code of a body is safe where its block is.
  pub body_code_ok : (result : Ty) (state : State) (block : BlockCode) (left : Left)
      → BlockOk tables number functions owner true state block left → IsBegun state.returned
      → ReturnsOk left.state.returned result
      → Wherever tables number functions owner (λ w p. w.result ≡ result
      → SafeAt w p (body_code result block)
      (λ _ _. BodiesFit tables number functions block.inside))
  unfolding body_code
  body_code_ok result state block left ok begun returns w of p knows is =
      by (is_unit result) refl block.only refl where
        Fit : Type 0
        Fit = BodiesFit tables number functions block.inside

        gives_nothing : SafeAt w p (block.code no_targets >> close (Return None)) (λ _ _. Fit)
        gives_nothing =
            safe_then w p (block.code no_targets) (λ _. close (Return None))
            (λ _ q. Keeps w p q × Fit) (λ _ _. Fit)
            (ok.code_ok w of p knows no_targets (none_lead w p)
            (subst (ReturnsOk left.state.returned) (sym is) returns))
            (λ _ q inside mid.
            return_in w of q None tt (All-nil (IsSet w q.writes (here q))) Fit mid.1)

        by : (unit : Bool) → is_unit result ≡ unit → (only : Option (Code Operand))
            → block.only ≡ only
            → SafeAt w p (with_result (if unit then None else only) block) (λ _ _. Fit)
        by true is_void only is_only = gives_nothing
        by false is_void None is_only = gives_nothing
        by false is_void (Some read) is_only =
            safe_then w p read (λ x. close (Return (Some x)))
            (λ x q. GivesTo w q result x × (Keeps w p q × Fit)) (λ _ _. Fit)
            (ok.only_ok refl read is_only begun result returns is_void w of p knows)
            (λ x q inside mid.
            return_in w of q (Some x) (goes_by w q result x is mid.0)
            (All-cons (IsSet w q.writes (here q)) x.reg [] mid.0.value.set
            (All-nil (IsSet w q.writes (here q)))) Fit mid.1.1)
