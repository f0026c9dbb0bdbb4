-- The blocks of the arms of a `switch`, and where it leads.
use Rattle.std.proofs.Common.{◌≡◌, ◌≢◌, ℕ, zero, suc, ◌⊎◌, inl, inr, Bool, true, false, List, []}
use Rattle.std.proofs.Common.{◌∷◌, Option, Some, None, subst, sym, refl, ap, ◌∙◌, map}
use Rattle.std.specs.Prelude.{◌==◌, if◌then◌else◌, slice_get}
use Rattle.std.specs.List.{AllByRecursion}
use Rattle.std.specs.Option.{unwrap_or}
use Rattle.std.proofs.lemmas.Bool.Decides.{eqb_tells}
use Rattle.std.proofs.lemmas.Option.{same_Some}
use Rattle.sw_types.specs.declared.shape.CaseShape.{CaseShape}
use Rattle.sw_types.specs.declared.shape.Shape.{Shape}
use Rattle.sw_graph.specs.declared.instr.Last.TheVariants.{Switch}
use Rattle.sw_graph.specs.declared.instr.Operand.{Operand}
use Rattle.sw_lower_plans.specs.Plan.{Anywhere, OfCase}
use Rattle.sw_lower_code.specs.Code.{Code, done, each, known, ◌>>=◌}
use Rattle.sw_lower_rules.specs.Carriers.{BlockCode, CaseCode}
use Rattle.sw_lower_rules.specs.Statements.{Arm, arm_block, block_of, case_from, default_block}
use Rattle.sw_lower_rules.specs.Statements.{switch_to}
use Rattle.sw_lower_rules.specs.Tables.{Tables}
use Rattle.sw_lower_rules.specs.declared.targets.Targets.{Targets}
use Rattle.sw_lower_return_facts.specs.Flows.{Extend, FlowAt, IsLiveLast, IsMark, IsReached, Mark, OneOf}
use Rattle.sw_lower_return_facts.specs.Flows.{FlowsHere, FlowState, WaysFlow, mark_of}
use Rattle.sw_lower_return_facts.proofs.Flow.Going.{AreAmong, block_then, stands_pending, swapped}
use Rattle.sw_lower_return_facts.proofs.Flow.Quiet.{flow_value, flows_known}
use Rattle.sw_lower_return_facts.proofs.Flow.Steps.{live_reached}
use Rattle.sw_lower_return_facts.proofs.Flow.Then.{flow_then}

-- An arm or `default`: its ways end if those of all parts do, and what a `break` leaves in it is
-- left by some part.
pub record PartFlows (ends breaks : Bool) (code : Targets → Code (Unit {0})) : Type 0 where
  pub own_ends : Bool
  pub own_breaks : Bool
  pub flows : WaysFlow own_ends own_breaks code
  pub ends_too : ends ≡ true → own_ends ≡ true
  pub breaks_too : own_breaks ≡ true → breaks ≡ true

abbrev pub CaseFlows : Bool → Bool → CaseCode → Type 0
CaseFlows ends breaks arm = PartFlows ends breaks arm.body.code

abbrev pub DefaultFlows : Bool → Bool → Option BlockCode → Type 0
DefaultFlows ends breaks None = Unit {0}
DefaultFlows ends breaks (Some block) = PartFlows ends breaks block.code

abbrev pub name_in : CaseCode → ℕ
name_in arm = arm.name.id

abbrev pub named : Arm → ℕ
named one = one.arm.name.id

-- the blocks of arms, before others
abbrev pub with_arms : List Arm → List ℕ → List ℕ
with_arms [] rest = rest
with_arms (one ∷ more) rest = one.block ∷ with_arms more rest

abbrev pub with_default : Option ℕ → List ℕ → List ℕ
with_default None rest = rest
with_default (Some number) rest = number ∷ rest

pub arms_first : (blocks : List Arm) (one : ℕ) (rest : List ℕ)
    → AreAmong (with_arms blocks (one ∷ rest)) (one ∷ with_arms blocks rest)
arms_first [] one rest number is = is
arms_first (first ∷ more) one rest number (inl is) = inr (inl is)
arms_first (first ∷ more) one rest number (inr is) =
    swapped first.block one (with_arms more rest) number (inr (arms_first more one rest number is))

pub arms_last : (blocks : List Arm) (one : ℕ) (rest : List ℕ)
    → AreAmong (one ∷ with_arms blocks rest) (with_arms blocks (one ∷ rest))
arms_last [] one rest number is = is
arms_last (first ∷ more) one rest number (inl is) = inr (arms_last more one rest number (inl is))
arms_last (first ∷ more) one rest number (inr (inl is)) = inl is
arms_last (first ∷ more) one rest number (inr (inr is)) =
    inr (arms_last more one rest number (inr is))

pub default_last : (blocks : List Arm) (default : Option ℕ) (one : ℕ) (rest : List ℕ)
    → AreAmong (one ∷ with_default default (with_arms blocks rest))
    (with_arms blocks (with_default default (one ∷ rest)))
default_last blocks None one rest number is = arms_last blocks one rest number is
default_last blocks (Some default) one rest number (inl is) =
    arms_last blocks default (one ∷ rest) number (inr (arms_last blocks one rest number (inl is)))
default_last blocks (Some default) one rest number (inr (inl is)) =
    arms_last blocks default (one ∷ rest) number (inl is)
default_last blocks (Some default) one rest number (inr (inr is)) =
    arms_last blocks default (one ∷ rest) number (inr (arms_last blocks one rest number (inr is)))

module _ (ends breaks live : Bool) where
  -- an arm with its block
  pub record ArmMade (marks : List Mark) (one : Arm) : Type 0 where
    pub flows : CaseFlows ends breaks one.arm
    pub is : IsMark marks one.block (mark_of live)

  abbrev pub AllMade : List Mark → List Arm → Type 0
  AllMade marks blocks = AllByRecursion (ArmMade marks) blocks

  pub made_later : (marks more : List Mark) (blocks : List Arm) → Extend marks more
      → AllMade marks blocks → AllMade more blocks
  made_later marks more [] extend made = tt
  made_later marks more (one ∷ blocks) extend made = (
    record { flows = made.0.flows; is = extend one.block (mark_of live) made.0.is },
    made_later marks more blocks extend made.1,
  )

  -- what is known after the blocks of arms are made
  pub record Made (rest : List ℕ) (arms : List CaseCode) (blocks : List Arm) (t : FlowState)
      : Type 0 where
    pub stands : FlowsHere t live (with_arms blocks rest)
    pub made : AllMade t.marks blocks
    pub names : map named blocks ≡ map name_in arms

  record OneMade (rest : List ℕ) (arm : CaseCode) (y : Arm) (t : FlowState) : Type 0 where
    stands : FlowsHere t live (y.block ∷ rest)
    is : IsMark t.marks y.block (mark_of live)
    arm_is : y.arm ≡ arm

  pub arms_made : (tables : Tables) (subject : Operand) (number : ℕ) (shape : Shape)
      (arms : List CaseCode) (s : FlowState) (rest : List ℕ) → FlowsHere s live rest
      → AllByRecursion (CaseFlows ends breaks) arms
      → FlowAt s (each (arm_block tables subject number shape) arms) (Made rest arms)
  unfolding each
  arms_made tables subject number shape [] s rest stands flows =
      flow_value [] s live rest (Made rest []) stands
      (λ t extend in_t. record { stands = in_t; made = tt; names = refl })
  arms_made tables subject number shape (arm ∷ arms) s rest stands flows =
      flow_then s (arm_block tables subject number shape arm)
      (λ y. each (arm_block tables subject number shape) arms >>= λ ys. done (y ∷ ys))
      (OneMade rest arm) (Made rest (arm ∷ arms))
      (flow_then s (known 0 (case_from 0 shape.cases arm.name.id)) _ (λ _ t. FlowsHere t live rest)
      (OneMade rest arm)
      (flows_known 0 (case_from 0 shape.cases arm.name.id) s live rest stands)
      (λ tag t to_t in_t.
      block_then t live rest (OfCase subject.reg number tag) (mark_of live) _
      (OneMade rest arm) in_t (λ block u to_u is in_u.
      flow_value (record { arm = arm; block = block }) u live (block ∷ rest) (OneMade rest arm) in_u
      (λ v to_v in_v.
      record { stands = in_v; is = to_v block (mark_of live) is; arm_is = refl }))))
      (λ y t to_t one.
      flow_then t (each (arm_block tables subject number shape) arms) (λ ys. done (y ∷ ys))
      (Made (y.block ∷ rest) arms) (Made rest (arm ∷ arms))
      (arms_made tables subject number shape arms t (y.block ∷ rest) one.stands flows.1)
      (λ ys u to_u more.
      flow_value (y ∷ ys) u live (with_arms ys (y.block ∷ rest)) (Made rest (arm ∷ arms))
      more.stands
      (λ v to_v in_v. record {
        stands = stands_pending v live (with_arms ys (y.block ∷ rest))
            (y.block ∷ with_arms ys rest) (arms_first ys y.block rest) in_v;
        made = (
          record {
            flows = subst (CaseFlows ends breaks) (sym one.arm_is) flows.0;
            is = to_v y.block (mark_of live) (to_u y.block (mark_of live) one.is);
          },
          made_later u.marks v.marks ys to_v more.made,
        );
        names = ap (λ (one : CaseCode). name_in one ∷ map named ys) one.arm_is
            ∙ ap (λ names. name_in arm ∷ names) more.names;
      })))

  -- the block of `default`
  abbrev pub IsDefault : List Mark → Option BlockCode → Option ℕ → Type 0
  IsDefault marks None None = Unit {0}
  IsDefault marks (Some block) (Some number) = IsMark marks number (mark_of live)
  IsDefault marks _ _ = ⊥

  pub record DefaultMade (rest : List ℕ) (otherwise : Option BlockCode) (default : Option ℕ)
      (t : FlowState) : Type 0 where
    pub stands : FlowsHere t live (with_default default rest)
    pub is : IsDefault t.marks otherwise default

  pub default_made : (tables : Tables) (otherwise : Option BlockCode) (s : FlowState)
      (rest : List ℕ)
      → FlowsHere s live rest
      → FlowAt s (default_block tables otherwise) (DefaultMade rest otherwise)
  default_made tables None s rest stands =
      flow_value None s live rest (DefaultMade rest None) stands
      (λ t extend in_t. record { stands = in_t; is = tt })
  default_made tables (Some block) s rest stands =
      block_then s live rest Anywhere (mark_of live) (λ number. done (Some number))
      (DefaultMade rest (Some block)) stands
      (λ number t to_t is in_t.
      flow_value (Some number) t live (number ∷ rest) (DefaultMade rest (Some block)) in_t
      (λ u to_u in_u. record { stands = in_u; is = to_u number (mark_of live) is }))

  pub default_later : (marks more : List Mark) (otherwise : Option BlockCode) (default : Option ℕ)
      → Extend marks more → IsDefault marks otherwise default → IsDefault more otherwise default
  default_later marks more None None extend is = tt
  default_later marks more None (Some number) extend is = is
  default_later marks more (Some block) None extend is = is
  default_later marks more (Some block) (Some number) extend is = extend number (mark_of live) is

  -- Each case has an arm.
  abbrev pub AreCovered : List CaseShape → List ℕ → Type 0
  AreCovered [] names = Unit {0}
  AreCovered (one ∷ more) names = OneOf one.name names × AreCovered more names

  -- where a case leads
  case_reached : (marks : List Mark) (blocks : List Arm) (name otherwise : ℕ) → live ≡ true
      → AllMade marks blocks → IsReached marks otherwise ⊎ OneOf name (map named blocks)
      → IsReached marks (unwrap_or (block_of blocks name) otherwise)
  case_reached marks [] name otherwise is made (inl reached) = reached
  case_reached marks [] name otherwise is made (inr none) = absurd none
  case_reached marks (one ∷ more) name otherwise is made known =
      by (eqb_tells (named one) name) (case_reached marks more name otherwise is made.1) where
        by : (((named one == name) ≡ true) × (named one ≡ name))
            ⊎ (((named one == name) ≡ false) × (named one ≢ name))
            → (IsReached marks otherwise ⊎ OneOf name (map named more)
            → IsReached marks (unwrap_or (block_of more name) otherwise))
            → IsReached marks (unwrap_or (if named one == name then Some one.block
            else block_of more name) otherwise)
        by (inl here) rest =
            subst (λ same. IsReached marks (unwrap_or (if same then Some one.block
            else block_of more name) otherwise)) (sym here.0)
            (live_reached marks one.block live made.0.is is)
        by (inr other) rest =
            subst (λ same. IsReached marks (unwrap_or (if same then Some one.block
            else block_of more name) otherwise)) (sym other.0) (rest (later known)) where
              later : IsReached marks otherwise ⊎ OneOf name (map named (one ∷ more))
                  → IsReached marks otherwise ⊎ OneOf name (map named more)
              later (inl reached) = inl reached
              later (inr (inl same)) = absurd (other.1 (sym same))
              later (inr (inr has)) = inr has

  -- Each way of a `switch` leads to an arm, or to where the rest goes.
  pub switch_live : (marks : List Mark) (given : Operand) (blocks : List Arm) (otherwise : ℕ)
      (cases : List CaseShape) → live ≡ true → AllMade marks blocks
      → IsReached marks otherwise ⊎ AreCovered cases (map named blocks)
      → IsLiveLast marks (Switch given (switch_to cases blocks otherwise))
  switch_live marks given blocks otherwise cases is made known =
      record { leads = leads cases known; gives = λ same. cc } where
        leads : (some : List CaseShape)
            → IsReached marks otherwise ⊎ AreCovered some (map named blocks) → (k block : ℕ)
            → slice_get (switch_to some blocks otherwise) k ≡ Some block → IsReached marks block
        leads [] known k block at = cc
        leads (one ∷ more) (inl reached) zero block at =
            subst (IsReached marks) (same_Some _ block at)
            (case_reached marks blocks one.name otherwise is made (inl reached))
        leads (one ∷ more) (inr covered) zero block at =
            subst (IsReached marks) (same_Some _ block at)
            (case_reached marks blocks one.name otherwise is made (inr covered.0))
        leads (one ∷ more) (inl reached) (suc k) block at = leads more (inl reached) k block at
        leads (one ∷ more) (inr covered) (suc k) block at = leads more (inr covered.1) k block at
