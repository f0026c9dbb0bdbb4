-- The getters of properties, and what is made of global variables, are placed.
use Rattle.std.proofs.Common.{◌≡◌, ℕ, ◌+◌, Bool, true, false, ◌&&◌, List, [], ◌∷◌, Option}
use Rattle.std.proofs.Common.{Some, None, Contains, refl, ap, sym, ◌∙◌, subst}
use Rattle.std.proofs.lemmas.List.Elements.{All-append, All-cons, All-head, All-nil, All-weaker}
use Rattle.std.proofs.lemmas.List.Elements.{Contains-append_right}
use Rattle.std.specs.Prelude.{All, if◌then◌else◌, slice_get}
use Rattle.sw_tree.specs.declared.decl.Decl.{Decl}
use Rattle.sw_tree.specs.declared.decl.Decl.TheVariants.{Global}
use Rattle.sw_tree.specs.declared.decl.PropTree.{PropTree}
use Rattle.sw_tree.specs.declared.expr.Expr.{Expr}
use Rattle.sw_types.specs.Accepts.{is_marked}
use Rattle.sw_types.specs.declared.isolation.Iso.{Iso}
use Rattle.sw_types.specs.declared.shape.Part.{Part}
use Rattle.sw_types.specs.declared.shape.Shape.{Shape}
use Rattle.sw_graph.specs.Bodies.{is_own}
use Rattle.sw_decl_words.specs.Evident.{Meanings, meanings_of}
use Rattle.sw_decl_words.specs.Shaped.{prop_type, written_actor}
use Rattle.sw_decls.specs.Signatures.{actor_iso}
use Rattle.sw_decls.specs.declared.signature.AsyncDefault.{AsyncDefault}
use Rattle.sw_decls.specs.declared.signature.GlobalVar.{GlobalVar}
use Rattle.sw_typing_rules.proofs.Steps.{and_right}
use Rattle.sw_typing_rules.specs.Expressions.{Judged}
use Rattle.sw_typing_rules.specs.Judges.{Judges}
use Rattle.sw_typing_rules.specs.Judging.{judge}
use Rattle.sw_typing_rules.specs.Programs.{ValueOf, value_setting}
use Rattle.sw_typing_rules.specs.Worlds.{World}
use Rattle.sw_typing_rules.proofs.Sound.{judges}
use Rattle.sw_isolation_rules.specs.Answers.{Answers, for_some}
use Rattle.sw_isolation_rules.specs.Kinds.{is_isolated, shape_iso}
use Rattle.sw_isolation_rules.specs.Noting.{body_note}
use Rattle.sw_isolation_rules.specs.Programs.{context_of, getter_notes, global_notes, value_notes}
use Rattle.sw_lower_code.specs.Whole.{Body}
use Rattle.sw_lower_rules.specs.Bodies.{first_value, getter, global_bodies, global_getter}
use Rattle.sw_lower_rules.specs.Bodies.{part_getter, prop_getters, shape_getters, stored_read}
use Rattle.sw_lower_rules.specs.Bodies.{value_bodies}
use Rattle.sw_lower_rules.specs.Carriers.{ExprCode}
use Rattle.sw_lower_rules.specs.Expressions.{iso_of}
use Rattle.sw_lower_rules.specs.Statements.{expr_code}
use Rattle.sw_lower_rules.specs.Tables.{Tables}
use Rattle.sw_lower_formed_facts.specs.Forms.{VarHolds}
use Rattle.sw_lower_formed_facts.proofs.Bodies.GlobalBodies.{global_first, global_first_stands}
use Rattle.sw_typing_facts.proofs.Lists.Joined.{Gives, all_left, all_right, both_give, none_gives}
use Rattle.sw_typing_facts.proofs.Lists.Listed.{in_first, in_rest}
use Rattle.sw_typing_facts.proofs.Programs.DeclParts.{props_in}
use Rattle.sw_typing_facts.proofs.Programs.DeclStands.{global_there, known_is}
use Rattle.sw_typing_facts.proofs.Programs.Standing.{Stands}
use Rattle.sw_lower_formed_facts.proofs.Said.RowsOf.{value_rows_hold}
use Rattle.sw_lower_total_facts.proofs.Standing.Declared.{global_iso}
use Rattle.sw_lower_call_facts.proofs.Calls.Bodies.{value_inside}
use Rattle.sw_lower_placed_facts.specs.Bodies.{IsFirstValue, IsPlacedBody}
use Rattle.sw_lower_placed_facts.specs.Bodies.IsPlacedBody.{first, ordinary}
use Rattle.sw_lower_placed_facts.specs.Claims.{AreInside, AreOrdinary, ExprNoted, IsOrdinary, ReadPlaced}
use Rattle.sw_lower_placed_facts.specs.Placing.{PlacesWith}
use Rattle.sw_lower_placed_facts.specs.Hosts.{IsHost, Program, Host}
use Rattle.sw_lower_placed_facts.proofs.Bodies.FirstValues.{first_placed}
use Rattle.sw_lower_placed_facts.proofs.Bodies.Getters.{global_getter_placed, part_getter_placed}
use Rattle.sw_lower_placed_facts.proofs.Bodies.Given as the
use Rattle.sw_lower_placed_facts.proofs.Bodies.Given.{IsProgram}
use Rattle.sw_lower_placed_facts.proofs.Bodies.Notes.{global_noted, prop_getter_noted}
use Rattle.sw_lower_placed_facts.proofs.Placing.Joining.{places_weaker}

-- a global actor's isolation, or none, is not to `self`
actor_free : (actor : Option ℕ) → is_own (actor_iso actor) ≡ true → ⊥
actor_free None is = cc
actor_free (Some number) is = cc

-- The bodies in code that is read are ordinary after it.
read_shows : (program : Program) (host : Host) (code : ExprCode) → ReadPlaced program host code
    → PlacesWith program host code.read (AreOrdinary program code.inside)
read_shows program host code placed s =
    places_weaker s code.read _ (λ x t. AreOrdinary program code.inside) (placed s)
    (λ x t later all. all.1.1)

-- a body that is noted, among the notes of its getter
getter_note : (prop : PropTree) (isolation : Iso) → (prop.mutable && is_isolated isolation) ≡ true
    → Contains (getter_notes prop isolation) (body_note prop.word.at isolation false)
getter_note prop isolation so =
    subst (λ is. Contains (if is then body_note prop.word.at isolation false ∷ [] else [])
    (body_note prop.word.at isolation false)) (sym so)
    (in_first (body_note prop.word.at isolation false) [])

module _ (decls : List Decl) (rule : AsyncDefault) (world : World) (ordered : List Body)
    (given : IsProgram decls rule world ordered) where
  abbrev tables : Tables
  tables = the.tables decls rule world ordered given

  abbrev answers : Answers
  answers = the.answers decls rule world ordered given

  abbrev program : Program
  program = the.program decls rule world ordered given

  abbrev Here : Body → Type 0
  Here = the.Here decls rule world ordered given

  abbrev Is : Body → Type 0
  Is = IsOrdinary program

  abbrev Placed : Body → Type 0
  Placed = IsPlacedBody program

  -- Ordinary bodies are placed.
  pub all_ordinary : (some : List Body) → All Is some → All Placed some
  all_ordinary some all = All-weaker Is Placed (λ body is. ordinary is) some all

  -- The isolation that is noted of a body is found by its key.
  noted_iso : (key : ℕ) (isolation : Iso) (is_async : Bool)
      → Contains (the.notes decls rule world ordered given) (body_note key isolation is_async)
      → iso_of (tables.isolation.body_at key) ≡ isolation
  noted_iso key isolation is_async has =
      ap iso_of (given.settled.noted
      (record { key = key; iso = isolation; is_async = is_async }) has)

  -- the getters of the properties of a type
  module _ (n g : ℕ) (decl : Decl) (stands : Stands decls n g decl) where
    prop_getter_is : (prop : PropTree) (shape : Shape) → Contains (props_in decl) prop
        → slice_get world.shapes n ≡ Some shape
        → (prop.mutable && is_isolated (shape_iso shape)) ≡ true
        → iso_of (tables.isolation.body_at prop.word.at) ≡ shape_iso shape
    prop_getter_is prop shape has there so =
        noted_iso prop.word.at (shape_iso shape) false
        (prop_getter_noted world answers decls n g decl stands prop shape has there
        (body_note prop.word.at (shape_iso shape) false) (getter_note prop (shape_iso shape) so))

    shape_getters_placed : (i : ℕ) (prop : PropTree) (shape : Shape)
        → Contains (props_in decl) prop → slice_get world.shapes n ≡ Some shape
        → Gives Here Is (shape_getters tables n i prop shape)
    shape_getters_placed i prop shape has there =
        by (prop.mutable && is_isolated (shape_iso shape)) refl where
          part : (found : Option Part) → slice_get shape.parts i ≡ found
              → (prop.mutable && is_isolated (shape_iso shape)) ≡ true
              → Gives Here Is
              (for_some found (λ part. part_getter tables prop.word.at n i shape part ∷ []))
          part None is so here = none_gives Here Is here
          part (Some one) is so here =
              All-cons Is (part_getter tables prop.word.at n i shape one) []
              (part_getter_placed program prop.word.at n i shape one there is
              (and_right prop.mutable (is_isolated (shape_iso shape)) so)
              (prop_getter_is prop shape has there so)
              (All-head Here (part_getter tables prop.word.at n i shape one) [] here).made)
              (All-nil Is)

          by : (so : Bool) → (prop.mutable && is_isolated (shape_iso shape)) ≡ so
              → Gives Here Is (if so then for_some (slice_get shape.parts i) (λ part.
              part_getter tables prop.word.at n i shape part ∷ []) else [])
          by true so = part (slice_get shape.parts i) refl so
          by false so = none_gives Here Is

    pub prop_getters_placed : (i : ℕ) (props : List PropTree)
        → ((prop : PropTree) → Contains props prop → Contains (props_in decl) prop)
        → Gives Here Is (prop_getters tables n i props)
    prop_getters_placed i [] among = none_gives Here Is
    prop_getters_placed i (prop ∷ props) among =
        both_give Here Is (for_some (slice_get world.shapes n) (shape_getters tables n i prop))
        (prop_getters tables n (i + 1) props) (by (slice_get world.shapes n) refl)
        (prop_getters_placed (i + 1) props
        (λ one has. among one (in_rest prop props one has))) where
          by : (found : Option Shape) → slice_get world.shapes n ≡ found
              → Gives Here Is (for_some found (shape_getters tables n i prop))
          by None is = none_gives Here Is
          by (Some shape) is =
              shape_getters_placed i prop shape (among prop (in_first prop props)) is

  -- a global variable
  module _ (n g : ℕ) (prop : PropTree) (stands : Stands decls n g (Global prop)) where
    abbrev key : ℕ
    key = prop.word.at

    abbrev variable : GlobalVar
    variable = record {
      key = prop.word;
      mutable = prop.mutable;
      actor = written_actor (meanings_of decls).top prop.written;
      ty = prop_type (meanings_of decls) None prop;
    }

    global_at : slice_get world.globals g ≡ Some variable
    global_at =
        global_there decls rule world given.typed.declared n g (Global prop) variable stands refl

    -- the isolation of what is made of it
    global_isolated : iso_of (tables.isolation.body_at key) ≡ global_iso world answers prop
    unfolding global_notes
    global_isolated =
        noted_iso key (global_iso world answers prop) false
        (global_noted world answers decls n g prop stands
        (body_note key (global_iso world answers prop) false)
        (in_first (body_note key (global_iso world answers prop) false) _))

    global_actor : iso_of (tables.isolation.body_at key) ≡ actor_iso variable.actor
    global_actor =
        global_isolated
        ∙ ap (λ (known : Meanings). actor_iso (written_actor known.top prop.written))
        (known_is decls rule world given.typed.declared)

    -- what gives it its first value, with the bodies in that
    module _ (value : Expr) (is : prop.value ≡ Some value) where
      abbrev code : ExprCode
      code = expr_code tables None value

      abbrev body : Body
      body = first_value tables key g code

      abbrev host : Host
      host = record { iso = body.iso; owner = None; has_self = false }

      abbrev made : ValueOf
      made = global_first world prop value

      host_is : IsHost program host
      host_is = record {
        own = λ has. cc;
        actor = λ own. absurd (actor_free variable.actor (ap is_own (sym global_actor) ∙ own));
      }

      inside : AreInside program code.inside
      inside =
          the.code_inside decls rule world ordered given n g (Global prop) code.inside stands
          (λ one has. subst (λ found. Contains (value_inside tables found) one) (sym is) has)

      noted : ExprNoted program (context_of (global_iso world answers prop) false None) [] [] value
      unfolding global_notes
      noted = record {
        stands = (the.trees_stand decls rule world ordered given).globals n g prop value stands is;
        noted = λ note has no_mention.
            global_noted world answers decls n g prop stands note
            (Contains-append_right
            (body_note key (global_iso world answers prop) false
            ∷ getter_notes prop (global_iso world answers prop)) _ note
            (subst (λ found. Contains
            (value_notes world answers (global_iso world answers prop) None found) note)
            (sym is) has));
      }

      value_read : ReadPlaced program host code
      value_read =
          (given.exprs (value_setting made) (is_marked made.wanted) value judged is_judged host
          host_is refl (All-nil (VarHolds answers))
          (value_rows_hold world decls given.typed.keyed given.typed.well made judged
          (global_first_stands world decls n g prop value stands is) is_judged) inside
          (context_of (global_iso world answers prop) false None) []
          (record { iso = sym global_isolated; owner = refl })).read noted where
            judged : Judged
            judged = judge world value (value_setting made) (is_marked made.wanted)

            is_judged : Judges world (value_setting made) (is_marked made.wanted) value judged
            is_judged = judges world (value_setting made) (is_marked made.wanted) value

      value_placed : Here body → IsFirstValue program body × AreOrdinary program code.inside
      value_placed here =
          first_placed program key g code variable (AreOrdinary program code.inside) global_at refl
          global_actor here.made (read_shows program host code value_read)

    -- Its first value is placed, and so are the bodies in that.
    record ValuePlaced (found : Option Expr) : Type 0 where
      each : All Placed (value_bodies tables key g found)
      inside : AreOrdinary program (value_inside tables found)

    values_placed : (found : Option Expr) → prop.value ≡ found
        → All Here (value_bodies tables key g found) → ValuePlaced found
    values_placed None is here = record { each = All-nil Placed; inside = All-nil Is }
    values_placed (Some value) is here =
        let placed = value_placed value is (All-head Here (body value is) _ here) in record {
          each = All-cons Placed (body value is) (code value is).inside (first placed.0)
              (all_ordinary (code value is).inside placed.1);
          inside = placed.1;
        }

    -- its getter
    getters_placed : Gives Here Is
        (for_some (slice_get world.globals g) (global_getter tables key g))
    getters_placed =
        subst (λ found. Gives Here Is (for_some found (global_getter tables key g)))
        (sym global_at) (by variable.actor refl) where
          made : Body
          made = getter tables key [] variable.ty (stored_read key g variable.ty)

          one : (actor : ℕ) → variable.actor ≡ Some actor → (mutable : Bool)
              → Gives Here Is (if mutable then made ∷ [] else [])
          one actor on true here =
              All-cons Is made []
              (global_getter_placed program key g actor variable global_at on global_actor
              (All-head Here made [] here).made) (All-nil Is)
          one actor on false here = none_gives Here Is here

          by : (actor : Option ℕ) → variable.actor ≡ actor
              → Gives Here Is (for_some actor (λ actor.
              if variable.mutable then made ∷ [] else []))
          by None on = none_gives Here Is
          by (Some actor) on = one actor on variable.mutable

    -- what is made of it, and the bodies in its first value
    pub record GlobalPlaced : Type 0 where
      pub each : All Placed (global_bodies tables g prop)
      pub inside : AreOrdinary program (value_inside tables prop.value)

    pub global_placed : All Here (global_bodies tables g prop) → GlobalPlaced
    unfolding global_bodies
    global_placed here =
        let values = value_bodies tables key g prop.value in
        let getters = for_some (slice_get world.globals g) (global_getter tables key g) in
        let placed = values_placed prop.value refl (all_left Here values getters here) in record {
          each = All-append Placed values getters placed.each
              (all_ordinary getters (getters_placed (all_right Here values getters here)));
          inside = placed.inside;
        }
