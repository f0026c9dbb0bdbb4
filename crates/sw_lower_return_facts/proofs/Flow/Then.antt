-- Code after code, where the blocks that are reached are known.
use Rattle.std.proofs.Common.{◌≡◌, ℕ, ◌+◌, Bool, List, ◌++◌, length, ap, ◌∙◌, subst, arith}
use Rattle.std.proofs.Common.{append_assoc, length-append}
use Rattle.sw_lower_plans.specs.Plan.{Ended, Numbers, Piece, Written, joined}
use Rattle.sw_lower_plans.specs.declared.bound.Bound.{Bound}
use Rattle.sw_lower_code.specs.Code.{Code, andthen, scope}
use Rattle.sw_lower_return_facts.specs.Flows.{CodeFlows, Extend, FlowAt, Mark, FlowsHere, FlowState}
use Rattle.sw_lower_return_facts.specs.Flows.{moved}
use Rattle.sw_lower_return_facts.proofs.Flow.Marks.{extend_more}

abbrev state : ℕ → ℕ → ℕ → List Bound → Numbers → List Mark → List Written → List Ended → FlowState
state regs blocks here vars number marks writes lasts = record {
  place =
      record { regs = regs; blocks = blocks; here = here; vars = vars; number = number };
  marks = marks;
  writes = writes;
  lasts = lasts;
}

-- Two pieces move to where the second moves from where the first did.
pub moved_both : {A B : Type 0} (s : FlowState) (first : Piece A) (second : Piece B)
    (one two : List Mark)
    → moved (moved s first one) second two ≡ moved s (joined first second) (one ++ two)
moved_both s first second one two =
    ap (λ regs. state regs ((s.place.blocks + length first.made) + length second.made)
    second.there ((s.place.vars ++ first.vars) ++ second.vars) s.place.number
    ((s.marks ++ one) ++ two) ((s.writes ++ first.writes) ++ second.writes)
    ((s.lasts ++ first.lasts) ++ second.lasts))
    (let same : (s.place.regs + length first.regs) + length second.regs
    ≡ s.place.regs + length (first.regs ++ second.regs) =
    omega (arith, length-append first.regs second.regs) in same)
    ∙ ap (λ blocks. state (s.place.regs + length (first.regs ++ second.regs)) blocks
    second.there ((s.place.vars ++ first.vars) ++ second.vars) s.place.number
    ((s.marks ++ one) ++ two) ((s.writes ++ first.writes) ++ second.writes)
    ((s.lasts ++ first.lasts) ++ second.lasts))
    (let same : (s.place.blocks + length first.made) + length second.made
    ≡ s.place.blocks + length (first.made ++ second.made) =
    omega (arith, length-append first.made second.made) in same)
    ∙ ap (λ vars. state (s.place.regs + length (first.regs ++ second.regs))
    (s.place.blocks + length (first.made ++ second.made))
    second.there vars s.place.number
    ((s.marks ++ one) ++ two) ((s.writes ++ first.writes) ++ second.writes)
    ((s.lasts ++ first.lasts) ++ second.lasts)) (append_assoc s.place.vars first.vars second.vars)
    ∙ ap (λ marks. state (s.place.regs + length (first.regs ++ second.regs))
    (s.place.blocks + length (first.made ++ second.made))
    second.there (s.place.vars ++ (first.vars ++ second.vars)) s.place.number
    marks ((s.writes ++ first.writes) ++ second.writes)
    ((s.lasts ++ first.lasts) ++ second.lasts)) (append_assoc s.marks one two)
    ∙ ap (λ writes. state (s.place.regs + length (first.regs ++ second.regs))
    (s.place.blocks + length (first.made ++ second.made))
    second.there (s.place.vars ++ (first.vars ++ second.vars)) s.place.number
    (s.marks ++ (one ++ two)) writes
    ((s.lasts ++ first.lasts) ++ second.lasts)) (append_assoc s.writes first.writes second.writes)
    ∙ ap (λ lasts. state (s.place.regs + length (first.regs ++ second.regs))
    (s.place.blocks + length (first.made ++ second.made))
    second.there (s.place.vars ++ (first.vars ++ second.vars)) s.place.number
    (s.marks ++ (one ++ two)) (s.writes ++ (first.writes ++ second.writes)) lasts)
    (append_assoc s.lasts first.lasts second.lasts)

-- code, and after it code that takes its value
pub flow_then : {A B : Type 0} (s : FlowState) (first : Code A) (next : A → Code B)
    (Mid : A → FlowState → Type 0) (Post : B → FlowState → Type 0) → FlowAt s first Mid
    → ((a : A) (t : FlowState) → Extend s.marks t.marks → Mid a t → FlowAt t (next a) Post)
    → FlowAt s (andthen first next) Post
unfolding andthen
flow_then s first next Mid Post one two =
    let piece = first.plan s.place in
    let t = moved s piece one.0 in
    let end = two piece.value t (extend_more s.marks one.0) one.1 in
    let other = (next piece.value).plan t.place in
    (one.0 ++ end.0, subst (Post other.value) (moved_both s piece other one.0 end.0) end.1)

pub flow_weaker : {A : Type 0} (s : FlowState) (code : Code A)
    (Strong Post : A → FlowState → Type 0)
    → FlowAt s code Strong
    → ((a : A) (t : FlowState) → Extend s.marks t.marks → Strong a t → Post a t)
    → FlowAt s code Post
flow_weaker s code Strong Post flow weaker =
    (flow.0, weaker _ _ (extend_more s.marks flow.0) flow.1)

pub flows_then : {A B : Type 0} (first : Code A) (next : A → Code B) → CodeFlows first
    → ((value : A) → CodeFlows (next value)) → CodeFlows (andthen first next)
flows_then first next one two s live rest stands =
    flow_then s first next (λ _ t. FlowsHere t live rest) (λ _ t. FlowsHere t live rest)
    (one s live rest stands) (λ a t extend now. two a t live rest now)

-- code whose variables are seen in it alone
pub flow_scope : {A : Type 0} (s : FlowState) (code : Code A) (live : Bool) (rest : List ℕ)
    → FlowAt s code (λ _ t. FlowsHere t live rest)
    → FlowAt s (scope code) (λ _ t. FlowsHere t live rest)
unfolding scope
flow_scope s code live rest flow = (
  flow.0,
  record {
    flows = record {
      counted = flow.1.flows.counted;
      fresh = flow.1.flows.fresh;
      lasts = flow.1.flows.lasts;
      closed = flow.1.flows.closed;
    };
    here = flow.1.here;
  },
)
