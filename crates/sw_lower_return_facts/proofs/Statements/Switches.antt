-- `switch`.
use Rattle.std.proofs.Common.{◌≡◌, ℕ, ◌⊎◌, inl, inr, Bool, true, false, List, [], ◌∷◌, Option, Some}
use Rattle.std.proofs.Common.{None, subst, sym, refl, ap, ◌∙◌, map}
use Rattle.std.specs.Prelude.{◌&&◌, not, slice_get}
use Rattle.std.specs.List.{AllByRecursion}
use Rattle.std.specs.Option.{unwrap_or}
use Rattle.sw_types.specs.declared.shape.CaseShape.{CaseShape}
use Rattle.sw_types.specs.declared.shape.Shape.{Shape}
use Rattle.sw_graph.specs.declared.instr.Last.TheVariants.{Jump, Switch}
use Rattle.sw_graph.specs.declared.instr.Operand.{Operand}
use Rattle.sw_isolation_rules.specs.Uses.{named_shape}
use Rattle.sw_lower_plans.specs.Plan.{Anywhere}
use Rattle.sw_lower_code.specs.Code.{Code, all, close, each, known, resume, scope, ◌>>=◌, ◌>>◌}
use Rattle.sw_lower_rules.specs.Carriers.{BlockCode, CaseCode, ExprCode}
use Rattle.sw_lower_rules.specs.Expressions.{block_made, jump}
use Rattle.sw_lower_rules.specs.Statements.{Arm, arm_block, arm_code, default_block, default_code}
use Rattle.sw_lower_rules.specs.Statements.{patterns_code, switch_code, switch_targets, switch_to}
use Rattle.sw_lower_rules.specs.Tables.{Tables}
use Rattle.sw_lower_rules.specs.Uses.{no_shape, shape_at, shape_of}
use Rattle.sw_lower_rules.specs.declared.targets.Targets.{Targets}
use Rattle.sw_lower_code_facts.proofs.Declaring.{has_patterns}
use Rattle.sw_lower_return_facts.proofs.Expressions.Induction.{flowing, variables_flow}
use Rattle.sw_lower_return_facts.specs.Flows.{CodeFlows, Extend, FlowAt, Flows, IsMark, IsReached}
use Rattle.sw_lower_return_facts.specs.Flows.{FlowsHere, Mark, FlowState, WaysFlow, mark_of, passes}
use Rattle.sw_lower_return_facts.proofs.Flow.Going.{block_then}
use Rattle.sw_lower_return_facts.proofs.Flow.Marks.{reached_later}
use Rattle.sw_lower_return_facts.proofs.Flow.Quiet.{flow_known}
use Rattle.sw_lower_return_facts.proofs.Flow.Steps.{Closed, flow_close, flow_done, flow_resumed}
use Rattle.sw_lower_return_facts.proofs.Flow.Steps.{flows_pending, jump_live, last_by, live_reached}
use Rattle.sw_lower_return_facts.proofs.Flow.Then.{flow_scope, flow_then, flow_weaker}
use Rattle.sw_lower_return_facts.proofs.Statements.Arms.{AllMade, AreCovered, CaseFlows, DefaultFlows}
use Rattle.sw_lower_return_facts.proofs.Statements.Arms.{DefaultMade, IsDefault, Made, PartFlows}
use Rattle.sw_lower_return_facts.proofs.Statements.Arms.{arms_made, default_last, default_later}
use Rattle.sw_lower_return_facts.proofs.Statements.Arms.{default_made, made_later, name_in, named}
use Rattle.sw_lower_return_facts.proofs.Statements.Arms.{switch_live, with_arms, with_default}
use Rattle.sw_lower_return_facts.proofs.Statements.Passing.{passes_broken, passes_part}

-- the type that an expression with a key has in the tables
abbrev pub shape_by : Tables → ℕ → Shape
shape_by tables key = unwrap_or
    (slice_get tables.world.shapes (unwrap_or (named_shape (tables.answers.type_at key)) 0))
    no_shape

module _ (tables : Tables) (ends breaks live : Bool) (targets : Targets) (merge : ℕ) where
  -- whether a block goes on after the `switch`
  abbrev meets : Bool
  meets = passes (ends && not breaks) live

  -- where the `switch` goes on, and where `continue` leads
  pub record Around (marks : List Mark) : Type 0 where
    pub is : IsMark marks merge (mark_of meets)
    pub continues : live ≡ true → IsReached marks (unwrap_or targets.continues 0)

  around_later : (marks more : List Mark) → Extend marks more → Around marks → Around more
  around_later marks more extend around = record {
    is = extend merge (mark_of meets) around.is;
    continues = λ is. reached_later marks more (unwrap_or targets.continues 0) extend
        (around.continues is);
  }

  -- the end of an arm or of `default`
  part_end : (own : Bool) (s : FlowState) (rest : List ℕ) → (ends ≡ true → own ≡ true)
      → FlowsHere s (passes own live) rest → Around s.marks
      → FlowAt s (jump merge) (λ _ t. Flows t rest)
  part_end own s rest too stands around =
      flow_weaker s (jump merge) (λ _ t. Closed s (Jump merge) rest t) (λ _ t. Flows t rest)
      (flow_close s (Jump merge) rest stands.flows
      (last_by s.marks s.writes s.place.here (passes own live) (Jump merge) stands.here
      (λ is. jump_live s.marks merge (live_reached s.marks merge meets around.is
      (passes_part ends breaks own live too is)))))
      (λ _ t extend closed. closed.flows)

  -- its body
  part_in : (code : Targets → Code (Unit {0})) (part : PartFlows ends breaks code) (s : FlowState)
      (rest : List ℕ) → FlowsHere s live rest → Around s.marks
      → FlowAt s (code (switch_targets tables targets merge))
      (λ _ t. FlowsHere t (passes part.own_ends live) rest)
  part_in code part s rest stands around =
      part.flows s live rest (switch_targets tables targets merge) stands (record {
        breaks_to = λ is broken. live_reached s.marks merge meets around.is
            (passes_broken ends breaks live is (part.breaks_too broken));
        continues_to = around.continues;
      })

  arm_in : (subject : Operand) (one : Arm) (part : CaseFlows ends breaks one.arm) (s : FlowState)
      (rest : List ℕ) → Flows s (one.block ∷ rest) → IsMark s.marks one.block (mark_of live)
      → Around s.marks
      → FlowAt s (arm_code tables subject targets merge one) (λ _ t. Flows t rest)
  arm_in subject one part s rest flows is around =
      flow_then s (resume one.block) _ (λ _ t. FlowsHere t live rest) (λ _ t. Flows t rest)
      (flow_resumed s one.block live rest flows is)
      (λ _ t to_t in_t.
      flow_then t (scope inner) _ (λ _ u. FlowsHere u (passes part.own_ends live) rest)
      (λ _ u. Flows u rest)
      (flow_scope t inner (passes part.own_ends live) rest
      (flow_then t (patterns_code tables subject 0 one.arm.patterns) _
      (λ _ u. FlowsHere u live rest)
      (λ _ u. FlowsHere u (passes part.own_ends live) rest)
      (has_patterns flowing variables_flow tables subject 0 one.arm.patterns t live rest in_t)
      (λ _ u to_u in_u.
      part_in one.arm.body.code part u rest in_u
      (around_later t.marks u.marks to_u (around_later s.marks t.marks to_t around)))))
      (λ _ u to_u in_u.
      part_end part.own_ends u rest part.ends_too in_u
      (around_later t.marks u.marks to_u (around_later s.marks t.marks to_t around)))) where
        inner : Code (Unit {0})
        inner = patterns_code tables subject 0 one.arm.patterns
            >> one.arm.body.code (switch_targets tables targets merge)

  pub arms_in : (subject : Operand) (blocks : List Arm) (s : FlowState) (rest : List ℕ)
      → Flows s (with_arms blocks rest) → AllMade ends breaks live s.marks blocks
      → Around s.marks
      → FlowAt s (all (arm_code tables subject targets merge) blocks) (λ _ t. Flows t rest)
  unfolding all
  arms_in subject [] s rest flows made around = flow_done tt s rest flows
  arms_in subject (one ∷ more) s rest flows made around =
      flow_then s (arm_code tables subject targets merge one) _
      (λ _ t. Flows t (with_arms more rest)) (λ _ t. Flows t rest)
      (arm_in subject one made.0.flows s (with_arms more rest) flows made.0.is around)
      (λ _ t to_t in_t.
      arms_in subject more t rest in_t
      (made_later ends breaks live s.marks t.marks more to_t made.1)
      (around_later s.marks t.marks to_t around))

  pub default_in : (otherwise : Option BlockCode) (default : Option ℕ) (s : FlowState)
      (rest : List ℕ)
      → DefaultFlows ends breaks otherwise → Flows s (with_default default rest)
      → IsDefault ends breaks live s.marks otherwise default → Around s.marks
      → FlowAt s (default_code tables otherwise default targets merge) (λ _ t. Flows t rest)
  default_in None None s rest part flows is around = flow_done tt s rest flows
  default_in None (Some number) s rest part flows is around = absurd is
  default_in (Some block) None s rest part flows is around = absurd is
  default_in (Some block) (Some number) s rest part flows is around =
      flow_then s (resume number) _ (λ _ t. FlowsHere t live rest) (λ _ t. Flows t rest)
      (flow_resumed s number live rest flows is)
      (λ _ t to_t in_t.
      flow_then t (block.code (switch_targets tables targets merge)) _
      (λ _ u. FlowsHere u (passes part.own_ends live) rest) (λ _ u. Flows u rest)
      (part_in block.code part t rest in_t (around_later s.marks t.marks to_t around))
      (λ _ u to_u in_u.
      part_end part.own_ends u rest part.ends_too in_u
      (around_later t.marks u.marks to_u (around_later s.marks t.marks to_t around))))

  -- what comes after the `switch` is closed
  pub parts_in : (subject : Operand) (blocks : List Arm) (otherwise : Option BlockCode)
      (default : Option ℕ) (s : FlowState) (rest : List ℕ) → DefaultFlows ends breaks otherwise
      → Flows s (merge ∷ with_default default (with_arms blocks rest))
      → AllMade ends breaks live s.marks blocks
      → IsDefault ends breaks live s.marks otherwise default → Around s.marks
      → FlowAt s (all (arm_code tables subject targets merge) blocks
      >> default_code tables otherwise default targets merge
      >> resume merge) (λ _ t. FlowsHere t meets rest)
  parts_in subject blocks otherwise default s rest part flows made is around =
      flow_then s (all (arm_code tables subject targets merge) blocks) _
      (λ _ t. Flows t (with_default default (merge ∷ rest))) (λ _ t. FlowsHere t meets rest)
      (arms_in subject blocks s (with_default default (merge ∷ rest))
      (flows_pending s (merge ∷ with_default default (with_arms blocks rest))
      (with_arms blocks (with_default default (merge ∷ rest)))
      (default_last blocks default merge rest) flows) made around)
      (λ _ t to_t in_t.
      let near = around_later s.marks t.marks to_t around in
      flow_then t (default_code tables otherwise default targets merge) (λ _. resume merge)
      (λ _ u. Flows u (merge ∷ rest)) (λ _ u. FlowsHere u meets rest)
      (default_in otherwise default t (merge ∷ rest) part in_t
      (default_later ends breaks live s.marks t.marks otherwise default to_t is) near)
      (λ _ u to_u in_u.
      flow_resumed u merge meets rest in_u (to_u merge (mark_of meets) near.is)))

-- what a case leads to that has no arm
otherwise_reached : (ends breaks live : Bool) (marks : List Mark) (otherwise : Option BlockCode)
    (default : Option ℕ) (merge : ℕ) (cases : List CaseShape) (names : List ℕ) → live ≡ true
    → IsDefault ends breaks live marks otherwise default
    → (otherwise ≡ None → AreCovered ends breaks live cases names)
    → IsReached marks (unwrap_or default merge) ⊎ AreCovered ends breaks live cases names
otherwise_reached ends breaks live marks None None merge cases names on is covered =
    inr (covered refl)
otherwise_reached ends breaks live marks None (Some number) merge cases names on is covered =
    absurd is
otherwise_reached ends breaks live marks (Some block) None merge cases names on is covered =
    absurd is
otherwise_reached ends breaks live marks (Some block) (Some number) merge cases names on is
    covered =
    inl (live_reached marks number live is on)

module _ (tables : Tables) (ends breaks : Bool) (subject : ExprCode) (arms : List CaseCode)
    (otherwise : Option BlockCode) (of_arms : AllByRecursion (CaseFlows ends breaks) arms)
    (part : DefaultFlows ends breaks otherwise) where
  -- Each case has an arm, or there is a `default`.
  abbrev pub Covers : Shape → Type 0
  Covers shape =
      otherwise ≡ None → (live : Bool) → AreCovered ends breaks live shape.cases (map name_in arms)

  switched_in : (shape : Shape) → Covers shape → (given : Operand) (number : ℕ) (s : FlowState)
      (live : Bool) (rest : List ℕ) (targets : Targets) → FlowsHere s live rest
      → (live ≡ true → IsReached s.marks (unwrap_or targets.continues 0))
      → FlowAt s (each (arm_block tables given number shape) arms
      >>= λ blocks. default_block tables otherwise
      >>= λ default. block_made
      >>= λ merge. close (Switch given
      (switch_to shape.cases blocks (unwrap_or default merge)))
      >> all (arm_code tables given targets merge) blocks
      >> default_code tables otherwise default targets merge
      >> resume merge) (λ _ t. FlowsHere t (passes (ends && not breaks) live) rest)
  switched_in shape covers given number s live rest targets stands again =
      flow_then s (each (arm_block tables given number shape) arms) _
      (Made ends breaks live rest arms) (λ _ x. FlowsHere x on rest)
      (arms_made ends breaks live tables given number shape arms s rest stands of_arms)
      (λ blocks t to_t made.
      flow_then t (default_block tables otherwise) _
      (DefaultMade ends breaks live (with_arms blocks rest) otherwise) (λ _ x. FlowsHere x on rest)
      (default_made ends breaks live tables otherwise t (with_arms blocks rest) made.stands)
      (λ default u to_u of_default.
      block_then u live (with_default default (with_arms blocks rest)) Anywhere (mark_of on) _
      (λ _ x. FlowsHere x on rest) of_default.stands
      (λ merge v to_v merge_is in_v.
      let made_now = made_later ends breaks live t.marks v.marks blocks
      (λ n mark is. to_v n mark (to_u n mark is)) made.made in
      let default_now = default_later ends breaks live u.marks v.marks otherwise default to_v
      of_default.is in
      let last = Switch given (switch_to shape.cases blocks (unwrap_or default merge)) in
      flow_then v (close last) _
      (λ _ x. Closed v last (merge ∷ with_default default (with_arms blocks rest)) x)
      (λ _ x. FlowsHere x on rest)
      (flow_close v last (merge ∷ with_default default (with_arms blocks rest)) in_v.flows
      (last_by v.marks v.writes v.place.here live last in_v.here
      (λ is. switch_live ends breaks live v.marks given blocks (unwrap_or default merge) shape.cases
      is made_now
      (otherwise_reached ends breaks live v.marks otherwise default merge shape.cases
      (map named blocks) is default_now
      (λ none. subst (AreCovered ends breaks live shape.cases) (sym made.names)
      (covers none live))))))
      (λ _ w to_w closed.
      parts_in tables ends breaks live targets merge given blocks otherwise default w rest part
      closed.flows (made_later ends breaks live v.marks w.marks blocks to_w made_now)
      (default_later ends breaks live v.marks w.marks otherwise default to_w default_now)
      (record {
        is = to_w merge (mark_of on) merge_is;
        continues = λ is. reached_later s.marks w.marks (unwrap_or targets.continues 0)
            (λ n mark is. to_w n mark (to_v n mark (to_u n mark (to_t n mark is)))) (again is);
      }))))) where
        on : Bool
        on = passes (ends && not breaks) live

  pub switch_ways : CodeFlows subject.read → Covers (shape_by tables subject.key)
      → WaysFlow (ends && not breaks) false (switch_code tables subject arms otherwise)
  unfolding shape_of shape_at
  switch_ways of_subject covers s live rest targets stands flow =
      flow_then s subject.read _ (λ _ t. FlowsHere t live rest) (λ _ x. FlowsHere x on rest)
      (of_subject s live rest stands)
      (λ given t to_t in_t.
      flow_then t (known 0 (named_shape (tables.answers.type_at subject.key))) _
      (λ number u. (number ≡ unwrap_or (named_shape (tables.answers.type_at subject.key)) 0)
      × FlowsHere u live rest) (λ _ x. FlowsHere x on rest)
      (flow_known 0 (named_shape (tables.answers.type_at subject.key)) t live rest in_t)
      (λ number u to_u in_u.
      flow_then u (known no_shape (slice_get tables.world.shapes number)) _
      (λ shape v. (shape ≡ unwrap_or (slice_get tables.world.shapes number) no_shape)
      × FlowsHere v live rest) (λ _ x. FlowsHere x on rest)
      (flow_known no_shape (slice_get tables.world.shapes number) u live rest in_u.1)
      (λ shape v to_v in_v.
      switched_in shape (subst Covers (sym (in_v.0
      ∙ ap (λ n. unwrap_or (slice_get tables.world.shapes n) no_shape) in_u.0)) covers) given
      number v live rest targets in_v.1
      (λ is. reached_later s.marks v.marks (unwrap_or targets.continues 0)
      (λ n mark is. to_v n mark (to_u n mark (to_t n mark is))) (flow.continues_to is))))) where
        on : Bool
        on = passes (ends && not breaks) live
