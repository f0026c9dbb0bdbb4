-- A body whose code is placed is an ordinary one: where it is isolated to `self`, it takes that
-- first and leaves it.
use Rattle.std.proofs.Common.{◌≡◌, ℕ, Bool, true, false, List}
use Rattle.std.proofs.Common.{Option, Some, None, refl, ap, sym, ◌∙◌, subst, inl, inr}
use Rattle.std.proofs.Common.{true≢false}
use Rattle.std.proofs.lemmas.List.Elements.{All-head}
use Rattle.std.specs.Prelude.{All, IsOk, ◌≢◌, ◌==◌}
use Rattle.std.specs.Option.{option_map_or}
use Rattle.std.proofs.lemmas.Bool.{eqb-true}
use Rattle.sw_types.specs.declared.ty.Ty.{Ty}
use Rattle.sw_types.specs.declared.ty.Ty.TheVariants as types
use Rattle.sw_graph.specs.Bodies.{is_own}
use Rattle.sw_graph.specs.Mentions.{set_by}
use Rattle.sw_graph.specs.Placed.{HasSelf}
use Rattle.sw_graph.specs.Points.{End, Middle, Point, point_in}
use Rattle.sw_graph.specs.Ways.{is_number, point_sets}
use Rattle.sw_graph.specs.declared.function.Function.{Function}
use Rattle.sw_graph.specs.declared.function.RegKind.TheVariants.{Plain}
use Rattle.sw_graph.specs.declared.instr.Instr.{Instr}
use Rattle.sw_isolation_rules.specs.Captures.{is_among, self_of}
use Rattle.sw_lower_code.specs.Whole.{Body, function_of, lower_body}
use Rattle.sw_lower_code.specs.declared.taken.Taken.{Taken}
use Rattle.sw_lower_formed_facts.specs.Ground.{HasVarType, kind_by}
use Rattle.sw_lower_formed_facts.specs.Taking.{TakenOk}
use Rattle.sw_lower_formed_facts.proofs.Expressions.Variables.{self_among}
use Rattle.sw_lower_call_facts.specs.Taking.{TakesFirst}
use Rattle.sw_lower_call_facts.proofs.Functions.Taking.{takes_actor}
use Rattle.sw_lower_placed_facts.specs.Claims.{IsOrdinary, PointsAllowed}
use Rattle.sw_lower_placed_facts.specs.Placing.{IsMe, PlacesWith}
use Rattle.sw_lower_placed_facts.specs.Hosts.{IsHost, Program, Host}
use Rattle.sw_lower_placed_facts.proofs.Bodies.Entering.{TakesWell}
use Rattle.sw_lower_placed_facts.proofs.Bodies.Functions.{body_ran, points_by}
use Rattle.sw_lower_placed_facts.proofs.Graphs.Points.{stands_in}
use Rattle.sw_lower_placed_facts.proofs.Uses.Variables.{me_is}

-- No point sets a register that no instruction sets.
sets_not : (r : ℕ) (set : Option ℕ) → ((q : ℕ) → set ≡ Some q → q ≢ r) → is_number r set ≡ false
sets_not r None none = refl
sets_not r (Some q) none = by (q == r) refl where
  by : (same : Bool) → (q == r) ≡ same → same ≡ false
  by false is = refl
  by true is = absurd (none q refl (eqb-true q r is))

unset_at : (function : Function) (r : ℕ)
    → ((p : ℕ) (instr : Instr) → point_in function p ≡ Some (Middle instr)
    → (q : ℕ) → set_by instr ≡ Some q → q ≢ r)
    → (p : ℕ) → point_sets r (point_in function p) ≡ false
unset_at function r none p = by (point_in function p) refl where
  by : (point : Option Point) → point_in function p ≡ point → point_sets r point ≡ false
  by None is = refl
  by (Some (End last)) is = refl
  by (Some (Middle instr)) is = sets_not r (set_by instr) (none p instr is)

-- `self` has the type around.
pub me_type : (program : Program) (host : Host) (key k : ℕ) (ty : Ty) → IsMe program host key
    → host.owner ≡ Some k → HasVarType program.tables host.owner key ty → ty ≡ types.Named k
me_type program host key k ty me is (inl has) =
    has.1 ∙ ap (λ found. option_map_or types.Named found types.Unit) is
me_type program host key k ty me is (inr has) =
    let self = me_is program host key me in
    absurd (true≢false
    (sym (ap (λ owner. is_among (self_of program.tables.world owner) key) self.owner_is
    ∙ ap (is_among (self_of program.tables.world (Some self.number))) (sym self.word)
    ∙ self_among program.tables.world self.number self.shape self.at) ∙ has.0))

module _ (program : Program) (host : Host) where
  -- What is taken first is an actor.
  takes_first : (takes : List Taken) → IsHost program host → TakesWell program host takes
      → host.has_self ≡ true → TakesFirst program.tables.world.shapes takes
  takes_first takes is_host well has =
      let self = well.first has in
      let around = is_host.actor (is_host.own has) in
      let ok = All-head (TakenOk program.tables host.owner) self.first self.more
      (subst (All (TakenOk program.tables host.owner)) self.are well.typed) in
      record {
        k = around.0;
        one = self.first;
        more = self.more;
        are = self.are;
        kind = ok.kind ∙ ap (λ boxed. kind_by boxed ok.ty) self.plain
            ∙ ap Plain (me_type program host self.first.key around.0 ok.ty self.me around.1
            ok.typed);
        actor = around.2;
      }

  -- A body that has its own `self` takes it first, and leaves it.
  pub has_self_by : (body : Body) → IsHost program host → TakesWell program host body.takes
      → PointsAllowed program host (function_of program.numbers body) → host.has_self ≡ true
      → HasSelf program.tables.world.shapes (function_of program.numbers body)
  has_self_by body is_host well points has =
      let function = function_of program.numbers body in
      let takes = takes_actor program.tables.world.shapes program.numbers body
      (takes_first body.takes is_host well has) in
      record {
        taken = takes.takes;
        kind = takes.kind;
        stays = unset_at function 0 (λ p instr at q set.
            let place = stands_in function.blocks p instr at in
            (points place.number place.index place.block instr place.at_block place.at_instr).leaves
            q set has);
      }

  -- A body whose points are allowed
  pub ordinary_by : (body : Body) → IsHost program host → host.iso ≡ body.iso
      → (is_own body.iso ≡ true → host.has_self ≡ true) → TakesWell program host body.takes
      → PointsAllowed program host (function_of program.numbers body) → IsOrdinary program body
  ordinary_by body is_host iso self well points = record {
    host = host;
    iso = iso;
    self = self;
    selves = has_self_by body is_host well points;
    points = points;
  }

  -- A body whose code is placed is ordinary, and what its code shows holds.
  pub ordinary_with : (body : Body) (So : Type 0) → IsHost program host → host.iso ≡ body.iso
      → (is_own body.iso ≡ true → host.has_self ≡ true) → TakesWell program host body.takes
      → IsOk (lower_body program.numbers body) → PlacesWith program host body.code So
      → IsOrdinary program body × So
  ordinary_with body So is_host iso self well made places =
      let ran = body_ran program host body well made in
      let placed = places ran.start ran.stood tt ran.end ran.ran ran.whole in (
        ordinary_by body is_host iso self well
            (points_by program host body ran.end.made.regs ran.end.made.blocks ran.regs ran.blocks
            placed.0.written),
        placed.1,
      )

  pub ordinary_placed : (body : Body) → IsHost program host → host.iso ≡ body.iso
      → (is_own body.iso ≡ true → host.has_self ≡ true) → TakesWell program host body.takes
      → IsOk (lower_body program.numbers body)
      → PlacesWith program host body.code (Unit {0}) → IsOrdinary program body
  ordinary_placed body is_host iso self well made places =
      (ordinary_with body (Unit {0}) is_host iso self well made places).0
