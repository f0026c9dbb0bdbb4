-- What a closure captures is there where the closure is made.
use Rattle.std.proofs.Common.{◌≡◌, ℕ, ◌<◌, ◌⊎◌, inl, inr, Bool, true, false, List, ◌++◌}
use Rattle.std.proofs.Common.{map, flat_map, Contains, refl, ap, sym, ◌∙◌, subst, Some, Option}
use Rattle.std.proofs.Common.{true≢false}
use Rattle.std.proofs.lemmas.List.Elements.{Contains-append_right}
use Rattle.std.proofs.lemmas.Option.{same_Some}
use Rattle.std.specs.Prelude.{if◌then◌else◌}
use Rattle.sw_tree.proofs.Members.{in_map, of_map}
use Rattle.sw_types.specs.declared.ty.Ty.{Ty}
use Rattle.sw_types.specs.declared.ty.Ty.TheVariants as types
use Rattle.sw_graph.specs.declared.function.RegKind.TheVariants.{Plain}
use Rattle.sw_graph.specs.declared.instr.Instr.TheVariants.{LoadBox}
use Rattle.sw_isolation_rules.specs.Captures.{is_among, mentioned, own_mentions, variables, self_of}
use Rattle.sw_isolation_rules.specs.Kinds.{is_own}
use Rattle.sw_isolation_rules.specs.Lists.{held_in}
use Rattle.sw_isolation_rules.specs.declared.note.Capture.{Capture}
use Rattle.sw_isolation_rules.specs.declared.note.Mention.{Mention}
use Rattle.sw_isolation_rules.specs.declared.note.Note.{Note}
use Rattle.sw_lower_plans.specs.Plan.{Numbers}
use Rattle.sw_lower_plans.specs.Run.{IsGoing, Making}
use Rattle.sw_lower_plans.specs.declared.bound.Bound.{Bound}
use Rattle.sw_lower_code.specs.Code.{done, emit, reg, var, ◌>>=◌, ◌>>◌}
use Rattle.sw_lower_rules.specs.Expressions.{captured}
use Rattle.sw_lower_rules.specs.Tables.{Tables, isolation_in}
use Rattle.sw_lower_rules.specs.Uses.{capture, capture_bound, listed_value, operand, typed, unknown}
use Rattle.sw_lower_total_facts.specs.Bound.{VariableIsBound, Ready}
use Rattle.sw_lower_total_facts.specs.Forms.{Reads}
use Rattle.sw_lower_total_facts.specs.Noted.{HasHeld}
use Rattle.sw_lower_total_facts.specs.Proceeding.{Proceeds}
use Rattle.sw_lower_total_facts.proofs.Closures.Boxes.{ref_is_boxed, ref_is_var}
use Rattle.sw_lower_total_facts.proofs.Closures.Enclosed.{IsEnclosed, Enclosure, inside, lists, outside}
use Rattle.sw_lower_total_facts.proofs.Closures.Enclosed.{seen_before, takes, within}
use Rattle.sw_lower_total_facts.proofs.Closures.Firsts.{own_has, taken_only}
use Rattle.sw_lower_total_facts.proofs.Closures.Kept.{not_among_left}
use Rattle.sw_lower_total_facts.proofs.Closures.Noted.{capture_as, held_as}
use Rattle.sw_lower_total_facts.proofs.Proceeding.Each.{goes_each}
use Rattle.sw_lower_total_facts.proofs.Proceeding.Steps.{gives_var, proceeds_done, proceeds_emit}
use Rattle.sw_lower_total_facts.proofs.Proceeding.Steps.{proceeds_known, proceeds_reg, proceeds_var}
use Rattle.sw_lower_total_facts.proofs.Proceeding.Then.{proceeds_then}
use Rattle.sw_lower_total_facts.proofs.Proceeding.Using.{key_of}

module _ (tables : Tables) where
  -- The value in a box is read where it has a type.
  listed_proceeds : (at : ℕ) (one : Capture) (bound : Bound) (ty : Ty)
      → tables.answers.type_at bound.key ≡ Some ty → (s : Making) → IsGoing s
      → Proceeds s (listed_value tables at one bound)
  unfolding typed
  listed_proceeds at one bound ty is s going =
      proceeds_then (typed tables bound.key)
      (λ ty. reg (Plain ty)
      >>= λ r. emit (LoadBox at r (operand bound.reg one.first)) >> done (operand r one.first))
      s going
      (proceeds_known types.Unit (tables.answers.type_at bound.key) ty s is)
      (λ given t ran made.
      proceeds_then (reg (Plain given))
      (λ r. emit (LoadBox at r (operand bound.reg one.first)) >> done (operand r one.first))
      t made.1.there (proceeds_reg (Plain given) t)
      (λ r u ran_u made_u.
      proceeds_then (emit (LoadBox at r (operand bound.reg one.first)))
      (λ _. done (operand r one.first)) u made_u.1.there
      (proceeds_emit (LoadBox at r (operand bound.reg one.first)) u)
      (λ _ v ran_v made_v. proceeds_done (operand r one.first) v)))

  -- A variable is captured where it is bound, and in a box where it is captured by reference.
  capture_proceeds : (listed : List ℕ) (at : ℕ) (one : Capture) (s : Making) → IsGoing s
      → VariableIsBound tables listed s.vars one.variable
      → (one.by_ref ≡ true → (tables.isolation.is_boxed one.variable ≡ true)
      × (is_among listed one.variable ≡ false))
      → Proceeds s (capture tables at one)
  unfolding capture capture_bound
  capture_proceeds listed at one s going is by_ref =
      proceeds_then (var one.variable) (capture_bound tables at one) s going
      (proceeds_var one.variable is.bound s is.found)
      (λ value t ran made.
      by value t made.1.there
      (same_Some is.bound value
      (sym is.found ∙ (gives_var one.variable value s t ran).0))
      one.by_ref value.boxed refl refl) where
        typed_so : (value : Bound) → is.bound ≡ value → value.boxed ≡ true
            → (ty : Ty) × (tables.answers.type_at value.key ≡ Some ty)
        typed_so value same boxed =
            let (ty, has) = is.typed (ap (λ (bound : Bound). bound.boxed) same ∙ boxed) in (
              ty,
              ap tables.answers.type_at (ap (λ (bound : Bound). bound.key) (sym same)
                  ∙ key_of one.variable s.vars is.bound is.found) ∙ has,
            )

        by : (value : Bound) (t : Making) → IsGoing t → is.bound ≡ value
            → (ref boxed : Bool) → one.by_ref ≡ ref → value.boxed ≡ boxed
            → Proceeds t (if ref
            then (if boxed then done (operand value.reg one.first) else unknown)
            else (if boxed then listed_value tables at one value
            else done (operand value.reg one.first)))
        by value t there same true true ref boxed = proceeds_done (operand value.reg one.first) t
        by value t there same true false ref boxed =
            let needs = by_ref ref in
            absurd (true≢false (sym (is.in_box needs.0 needs.1)
            ∙ ap (λ (bound : Bound). bound.boxed) same ∙ boxed))
        by value t there same false true ref boxed =
            let (ty, has) = typed_so value same boxed in
            listed_proceeds at one value ty has t there
        by value t there same false false ref boxed =
            proceeds_done (operand value.reg one.first) t

-- What is noted of a closure: what it takes, and what is mentioned around it.
pub record SaysClosed (tables : Tables) (closure : Enclosure) (notes : List Note) : Type 0 where
  pub sees : flat_map mentioned notes ≡ own_mentions closure.at (inside tables closure)
  pub holds : flat_map held_in notes ≡ flat_map held_in (inside tables closure)
      ++ map (held_as closure.at (lists tables closure)) (takes tables closure)

module _ (tables : Tables) (number : Numbers) (all : List Note)
    (noted : tables.isolation ≡ isolation_in all) (closure : Enclosure)
    (enclosed : IsEnclosed tables all closure) (notes : List Note)
    (says : SaysClosed tables closure notes) where
  abbrev IsReady : Making → Type 0
  IsReady s = Ready tables number closure.context closure.listed (outside tables closure) notes s

  -- A closure that takes something is among those that do.
  takes_some : (one : Mention) → Contains (takes tables closure) one → HasHeld notes
  takes_some one has =
      let held = held_as closure.at (lists tables closure) one in (
        held,
        subst (λ list. Contains list held) (sym says.holds)
            (Contains-append_right (flat_map held_in (inside tables closure))
            (map (held_as closure.at (lists tables closure)) (takes tables closure)) held
            (in_map (held_as closure.at (lists tables closure)) (takes tables closure) one has)),
      )

  -- A variable that a closure takes is bound where the closure stands.
  taken_bound : (s : Making) → IsReady s → (one : Mention) → Contains (takes tables closure) one
      → VariableIsBound tables closure.listed s.vars one.variable
  taken_bound s ready one has =
      let only = taken_only tables.world (within tables closure) closure.at (inside tables closure)
      one has in
      by only.1 only.0 where
        by : one.variable < closure.at
            → Contains (variables (flat_map mentioned (inside tables closure))) one.variable
            ⊎ ((is_own closure.iso ≡ true)
            × Contains (self_of tables.world closure.context.owner) one.variable)
            → VariableIsBound tables closure.listed s.vars one.variable
        by before (inl there) =
            ready.vars one.variable
            (seen_before tables all closure enclosed one.variable there before)
            (subst (λ list. Contains (variables list) one.variable) (sym says.sees)
            (own_has tables.world (within tables closure) closure.at (inside tables closure)
            one.variable there before))
        by before (inr me) =
            ready.held (enclosed.isolated me.0) (takes_some one has) one.variable me.1

  -- Where a closure captures by reference, no closure around lists the variable.
  unlisted : (mention : Mention) (one : Capture)
      → capture_as all closure.at (lists tables closure) mention ≡ one → one.by_ref ≡ true
      → is_among closure.listed one.variable ≡ false
  unlisted mention one is by_ref =
      subst (λ (other : Capture). is_among closure.listed other.variable ≡ false) is
      (not_among_left closure.listed _ mention.variable
      (ref_is_var all closure.at (lists tables closure) mention
      (ap (λ (other : Capture). other.by_ref) is ∙ by_ref)).1)

  -- All that a closure takes is captured.
  pub captured_proceed : (owner : Option ℕ) (key : ℕ)
      → Reads tables number closure.context closure.listed closure.vars notes
      (captured tables owner key closure.at)
  captured_proceed owner key =
      goes_each tables number closure.context closure.listed (outside tables closure) notes
      (capture tables key) (tables.isolation.captures_of closure.at) one_proceeds where
        one_proceeds : (one : Capture) → Contains (tables.isolation.captures_of closure.at) one
            → (s : Making) → IsReady s → Proceeds s (capture tables key one)
        one_proceeds one has s ready =
            let (mention, among, is) = of_map
            (capture_as all closure.at (lists tables closure)) (takes tables closure) one
            (subst (λ captures. Contains captures one) enclosed.captures has) in
            capture_proceeds tables closure.listed key one s ready.going
            (subst (λ (other : Capture). VariableIsBound tables closure.listed s.vars
            other.variable) is
            (taken_bound s ready mention among))
            (λ by_ref. (
              ref_is_boxed tables all noted closure.at one has by_ref,
              unlisted mention one is by_ref,
            ))
