-- A closure or a task that is isolated to `self` captures that first.
use Rattle.std.proofs.Common.{◌≡◌, ℕ, Bool, true, false, List, [], ◌∷◌, ◌++◌, Option, Some, None}
use Rattle.std.proofs.Common.{map, Contains, refl, sym, ap, ◌∙◌, subst, arith, if◌then◌else◌}
use Rattle.std.proofs.lemmas.Option.{none-some, same_Some}
use Rattle.std.specs.Option.{option_map_or}
use Rattle.std.specs.Prelude.{slice_get}
use Rattle.sw_list.proofs.Members.{none_in}
use Rattle.sw_tree.specs.declared.decl.Decl.{Decl}
use Rattle.sw_tree.specs.declared.decl.Decl.TheVariants.{Actor}
use Rattle.sw_tree.specs.declared.decl.FuncTree.{FuncTree}
use Rattle.sw_tree.specs.declared.decl.InitTree.{InitTree}
use Rattle.sw_tree.specs.declared.decl.PropTree.{PropTree}
use Rattle.sw_tree.specs.declared.name.Name.{Name}
use Rattle.sw_types.specs.declared.shape.Shape.{Shape}
use Rattle.sw_types.specs.declared.shape.ShapeKind.TheVariants as kinds
use Rattle.sw_types.specs.declared.ty.Ty.{Ty, out-Ty}
use Rattle.sw_types.specs.declared.ty.Ty.TheVariants as types
use Rattle.sw_graph.specs.declared.function.RegKind.TheVariants.{BoxOf, Plain}
use Rattle.sw_decl_words.specs.Evident.{meanings_of}
use Rattle.sw_decl_words.specs.Shaped.{part_of, shape_of}
use Rattle.sw_decls.specs.declared.signature.AsyncDefault.{AsyncDefault}
use Rattle.sw_typing_rules.specs.Programs.{said}
use Rattle.sw_typing_rules.specs.Worlds.{World, item}
use Rattle.sw_isolation_rules.specs.Answers.{Answers, answers_in, for_some}
use Rattle.sw_isolation_rules.specs.Captures.{is_among, self_of}
use Rattle.sw_isolation_rules.specs.Kinds.{is_own}
use Rattle.sw_isolation_rules.specs.Lists.{capture_of, vars_in}
use Rattle.sw_isolation_rules.specs.Uses.{named_layer}
use Rattle.sw_isolation_rules.specs.declared.note.BodyIso.{BodyIso}
use Rattle.sw_isolation_rules.specs.declared.note.Capture.{Capture}
use Rattle.sw_isolation_rules.specs.declared.note.Captured.{Captured as Held}
use Rattle.sw_isolation_rules.specs.declared.note.Note.{Note}
use Rattle.sw_lower_code.specs.Whole.{Body}
use Rattle.sw_lower_code.specs.declared.taken.Taken.{Taken}
use Rattle.sw_lower_rules.specs.Carriers.{ClosureCode}
use Rattle.sw_lower_rules.specs.Expressions.{capture_taken, captured_kind, captured_type}
use Rattle.sw_lower_rules.specs.Expressions.{closure_body, closure_param_taken}
use Rattle.sw_lower_rules.specs.Expressions.{iso_of}
use Rattle.sw_lower_rules.specs.Tables.{Tables, or_void}
use Rattle.sw_typing_facts.proofs.Lists.Listed.{in_first, only_in}
use Rattle.sw_typing_facts.proofs.Programs.DeclStands.{shape_there}
use Rattle.sw_typing_facts.proofs.Programs.Keyed.{one_place}
use Rattle.sw_typing_facts.proofs.Programs.Standing.{Stands, maker_of}
use Rattle.sw_typing_facts.proofs.Said.Once.{selves_untyped}
use Rattle.sw_lower_total_facts.specs.Noted.{held_of}
use Rattle.sw_lower_total_facts.specs.Programs.{IsWelltyped, noted_tables, notes_of}
use Rattle.sw_lower_total_facts.proofs.Closures.Kept.{among_in, in_among}
use Rattle.sw_lower_total_facts.proofs.Closures.Noted.{captures_are_held}
use Rattle.sw_lower_total_facts.proofs.Standing.Ordered.{self_words}
use Rattle.sw_lower_call_facts.proofs.BodyNotes.Programs.{found_good}
use Rattle.sw_lower_call_facts.proofs.Calls.Insides.{inside_of, insides}
use Rattle.sw_lower_call_facts.proofs.Giving.Deep.{deep_counted}
use Rattle.sw_lower_call_facts.proofs.Giving.Held.{Good, HeldIn, actors_held}
use Rattle.sw_lower_call_facts.proofs.Giving.Places.{IsInside, actor_inside, inside_deep}
use Rattle.sw_lower_placed_facts.specs.Settled.{BeginsWith}

-- what is found as isolated to `self`
own_found : (found : Option BodyIso) → is_own (iso_of found) ≡ true
    → (body : BodyIso) × (found ≡ Some body) × (is_own body.iso ≡ true)
own_found None is = cc
own_found (Some body) is = (body, refl, is)

-- `self` is one variable.
one_self : (found : Option Shape) (one other : ℕ)
    → Contains (for_some found (λ (shape : Shape). shape.at ∷ [])) one
    → Contains (for_some found (λ (shape : Shape). shape.at ∷ [])) other → one ≡ other
one_self None one other has holds = absurd (none_in one has)
one_self (Some shape) one other has holds =
    sym (only_in shape.at one has) ∙ only_in shape.at other holds

-- `Void` is no declared type.
not_void : (n : ℕ) → types.Unit ≡ types.Named n → ⊥
not_void n is =
    none-some n
    (sym (ap named_layer types.outs-Unit) ∙ ap (λ ty. named_layer (out-Ty ty)) is
    ∙ ap named_layer (types.outs-Named n))

-- The types of what is captured are alike where the kinds are.
same_type : (by_ref : Bool) (one other : Ty)
    → (if by_ref then BoxOf one else Plain one) ≡ (if by_ref then BoxOf other else Plain other)
    → one ≡ other
same_type true one other is = cc
same_type false one other is = cc

-- the kinds of what is first taken
first_kinds : (one other : Taken) (first second : List Taken)
    → one ∷ first ≡ other ∷ second → one.kind ≡ other.kind
first_kinds one other first second is =
    ap (λ (taken : Taken). taken.kind) (same_Some one other (ap (λ list. slice_get list 0) is))

module _ (decls : List Decl) (rule : AsyncDefault) (world : World)
    (is : IsWelltyped decls rule world) where
  abbrev tables : Tables
  tables = noted_tables world decls

  abbrev answers : Answers
  answers = answers_in (said world decls)

  abbrev all : List Note
  all = notes_of world decls

  -- an actor with its declaration
  module _ (n g : ℕ) (word : Name) (props : List PropTree) (inits : List InitTree)
      (funcs : List FuncTree) (stands : Stands decls n g (Actor word props inits funcs)) where
    abbrev actor : Decl
    actor = Actor word props inits funcs

    word_untyped : answers.type_at word.at ≡ None
    unfolding shape_of
    word_untyped =
        selves_untyped world decls rule is.keyed is.declared n (record {
          kind = kinds.Actor;
          at = word.at;
          conforms = false;
          actor = None;
          parts = map (part_of (meanings_of decls) (Some n)) props;
          cases = [];
        }) (shape_there decls rule world is.declared n g actor _ stands refl)

    own_type : captured_type tables (Some n) word.at ≡ types.Named n
    own_type =
        ap (λ (mine : Bool). if mine then types.Named n
        else or_void (answers.type_at word.at))
        (in_among (self_of world (Some n)) word.at
        (subst (λ list. Contains list word.at)
        (sym (self_words decls rule world is.declared n g actor stands)) (in_first word.at [])))

    -- What has the actor's type among what is captured is `self`.
    owner_is : (owner : Option ℕ) → captured_type tables owner word.at ≡ types.Named n
        → Contains (self_of world owner) word.at
    owner_is owner same = by (is_among (self_of world owner) word.at) refl same where
      by : (mine : Bool) → is_among (self_of world owner) word.at ≡ mine
          → (if mine then option_map_or types.Named owner types.Unit
          else or_void (answers.type_at word.at)) ≡ types.Named n
          → Contains (self_of world owner) word.at
      by true mine typed = among_in (self_of world owner) word.at mine
      by false mine typed = absurd (not_void n (sym (ap or_void word_untyped) ∙ typed))

    module _ (c : ℕ) (owner : Option ℕ) (first : Held) (more : List Held)
        (held : held_of c all ≡ first ∷ more) (self : first.mention.variable ≡ word.at) where
      abbrev make : Held → Capture
      make = capture_of (vars_in all)

      captures : tables.isolation.captures_of c ≡ make first ∷ map make more
      captures = captures_are_held tables all refl c ∙ ap (map make) held

      -- what a closure takes of these
      takes : (by : Option ℕ) (params : List Taken)
          → map (capture_taken tables by) (tables.isolation.captures_of c) ++ params
          ≡ capture_taken tables by (make first)
          ∷ (map (capture_taken tables by) (map make more) ++ params)
      takes by params = ap (λ list. map (capture_taken tables by) list ++ params) captures

      owner_self : (params others : List Taken)
          → map (capture_taken tables owner) (tables.isolation.captures_of c) ++ params
          ≡ map (capture_taken tables (Some n)) (tables.isolation.captures_of c) ++ others
          → Contains (self_of world owner) word.at
      owner_self params others same =
          let kinds_are : captured_kind tables owner (make first)
          ≡ captured_kind tables (Some n) (make first) =
          first_kinds (capture_taken tables owner (make first))
          (capture_taken tables (Some n) (make first)) _ _
          (sym (takes owner params) ∙ same ∙ takes (Some n) others) in
          owner_is owner
          (subst (λ v. captured_type tables owner v ≡ captured_type tables (Some n) v) self
          (same_type (make first).by_ref (captured_type tables owner first.mention.variable)
          (captured_type tables (Some n) first.mention.variable) kinds_are) ∙ own_type)

  -- the parameters of a closure
  abbrev params : ClosureCode → List Taken
  params closure = map (closure_param_taken tables) closure.params

  same_takes : (owner other : Option ℕ) (one closure : ClosureCode) (result given : Ty)
      → closure_body tables owner one result ≡ closure_body tables other closure given
      → map (capture_taken tables owner) (tables.isolation.captures_of one.at) ++ params one
      ≡ map (capture_taken tables other) (tables.isolation.captures_of one.at) ++ params closure
  unfolding closure_body
  same_takes owner other one closure result given same =
      ap (λ (body : Body). body.takes) same
      ∙ ap (λ at. map (capture_taken tables other) (tables.isolation.captures_of at)
      ++ params closure) (sym (ap (λ (body : Body). body.key) same))

  body_key : (owner : Option ℕ) (closure : ClosureCode) (result : Ty)
      → (closure_body tables owner closure result).key ≡ closure.at
  unfolding closure_body
  body_key owner closure result = refl

  -- the declaration of an actor in which the key of a closure or a task stands
  in_actor : (owner : Option ℕ) (closure : ClosureCode) (result : Ty)
      → Contains (insides tables decls) (closure_body tables owner closure result)
      → (held : HeldIn decls world closure.at)
      → IsInside tables (Some held.n) (closure_body tables owner closure result)
  in_actor owner closure result has held =
      let body = closure_body tables owner closure result in
      let c = closure.at in
      let place = maker_of (inside_of tables) 0 0 decls body has in
      let deep = inside_deep tables c place.n place.g place.decl body place.has
      (body_key owner closure result) in
      let actor = Actor held.word held.props held.inits held.funcs in
      let same = one_place decls place.n place.g place.decl held.n held.g actor c is.keyed
      place.stands held.stands (omega (arith, deep, deep_counted place.decl c)) held.counted in
      actor_inside tables decls rule is.keyed is.declared held.n held.g held.word held.props
      held.inits held.funcs held.stands body
      (subst (λ decl. Contains (inside_of tables held.n held.g decl) body) same.same
      (subst (λ g. Contains (inside_of tables held.n g place.decl) body) same.globals
      (subst (λ n. Contains (inside_of tables n place.g place.decl) body) same.shapes
      place.has)))

  found_held : (owner : Option ℕ) (closure : ClosureCode) (result : Ty)
      → Contains (insides tables decls) (closure_body tables owner closure result)
      → is_own (iso_of (tables.isolation.body_at closure.at)) ≡ true
      → HeldIn decls world closure.at
  found_held owner closure result has own =
      let body = closure_body tables owner closure result in
      let c = closure.at in
      let place = maker_of (inside_of tables) 0 0 decls body has in
      let deep = inside_deep tables c place.n place.g place.decl body place.has
      (body_key owner closure result) in
      let (noted, noted_is, noted_own) = own_found (tables.isolation.body_at c) own in
      found_good decls rule world answers is.keyed is.declared (Good decls rule world is c)
      (actors_held decls rule world is c place.n place.g place.decl place.stands deep) c noted
      noted_is noted_own refl

  pub captures_begin : (owner : Option ℕ) (closure : ClosureCode) (result : Ty) (me : ℕ)
      → Contains (insides tables decls) (closure_body tables owner closure result)
      → is_own (iso_of (tables.isolation.body_at closure.at)) ≡ true
      → Contains (self_of world owner) me
      → BeginsWith (tables.isolation.captures_of closure.at) me
  captures_begin owner closure result me has own sees =
      let held = found_held owner closure result has own in
      let one = in_actor owner closure result has held in
      let first = held.begins.first in
      let more = held.begins.more in
      let make = capture_of (vars_in all) in
      let self = owner_self held.n held.g held.word held.props held.inits held.funcs held.stands
      closure.at owner first more held.begins.are held.begins.is (params closure)
      (params one.closure)
      (same_takes owner (Some held.n) closure one.closure result one.result one.is) in
      record {
        first = make first;
        more = map make more;
        are = captures_are_held tables all refl closure.at ∙ ap (map make) held.begins.are;
        is = held.begins.is
            ∙ one_self (item owner world.shapes) held.word.at me self sees;
      }
