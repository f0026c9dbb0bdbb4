-- Calls of getters give their actors.
use Rattle.std.proofs.Common.{◌≡◌, ℕ, true, List, [], ◌∷◌, map, Option, Some, None, refl, sym}
use Rattle.std.proofs.Common.{ap, ◌∙◌, subst, inl, inr}
use Rattle.std.proofs.lemmas.List.Sorted.{Contains-permutation}
use Rattle.sw_tree.specs.Contents.{AreKeyed}
use Rattle.sw_tree.specs.declared.decl.Decl.{Decl}
use Rattle.sw_tree.specs.declared.decl.Decl.TheVariants.{Actor, Global}
use Rattle.sw_types.specs.declared.isolation.Iso.TheVariants as iso
use Rattle.sw_types.specs.declared.shape.Shape.{Shape}
use Rattle.sw_types.specs.declared.ty.Ty.TheVariants as types
use Rattle.sw_graph.specs.declared.function.Function.{Function}
use Rattle.sw_graph.specs.declared.function.RegKind.TheVariants.{Plain}
use Rattle.sw_decls.specs.Declaring.{IsFirstBreach}
use Rattle.sw_decls.specs.declared.signature.AsyncDefault.{AsyncDefault}
use Rattle.sw_typing_rules.specs.Programs.{said}
use Rattle.sw_typing_rules.specs.Worlds.{IsWorldOf, World}
use Rattle.sw_isolation_rules.specs.Answers.{answers_in}
use Rattle.sw_isolation_rules.specs.Kinds.{is_own}
use Rattle.sw_isolation_rules.specs.declared.note.BodyIso.{BodyIso}
use Rattle.sw_graph.specs.Supplied.{TakesActor}
use Rattle.sw_lower_plans.specs.declared.name.FunctionName.{FunctionName}
use Rattle.sw_lower_code.specs.Whole.{Body, function_of}
use Rattle.sw_lower_code.specs.declared.taken.Taken.{Taken}
use Rattle.sw_lower_rules.specs.Bodies.{AreNumbered, AreOrdered, functions_of, numbers_of}
use Rattle.sw_lower_rules.specs.Bodies.{program_bodies}
use Rattle.sw_lower_rules.specs.Expressions.{iso_of}
use Rattle.sw_lower_rules.specs.Tables.{Tables, getter_of}
use Rattle.sw_lower_formed_facts.proofs.Headers.ByName.{body_found}
use Rattle.sw_lower_formed_facts.proofs.Headers.Getters.{GlobalGetter, PartGetter, getter_in, props_of}
use Rattle.sw_typing_facts.proofs.Programs.Keyed.{one_place}
use Rattle.sw_lower_formed_facts.proofs.Bodies.MadeOf.{body_made}
use Rattle.sw_lower_formed_facts.proofs.Programs.PropKeys.{global_key_in, prop_key_in}
use Rattle.sw_typing_facts.proofs.Programs.Standing.{Stands}
use Rattle.sw_lower_total_facts.specs.Programs.{noted_tables}
use Rattle.sw_lower_call_facts.specs.Given.{TakesAt}
use Rattle.sw_lower_call_facts.specs.Owning.{OwnKey}
use Rattle.sw_lower_call_facts.specs.Taking.{IsActorAt, TakesFirst}
use Rattle.sw_lower_call_facts.proofs.BodyNotes.Programs.{own_in_actor}
use Rattle.sw_lower_call_facts.proofs.Calls.Programs.{body_calls}
use Rattle.sw_lower_call_facts.proofs.Functions.Methods.{function_is}
use Rattle.sw_lower_call_facts.proofs.Functions.Owners.{actor_at}
use Rattle.sw_lower_call_facts.proofs.Functions.Taking.{takes_actor}

-- what is found as isolated to `self`
pub found_own : (found : Option BodyIso) → iso_of found ≡ iso.Own
    → (body : BodyIso) × (found ≡ Some body) × (is_own body.iso ≡ true)
found_own None is = cc
found_own (Some body) is = (body, refl, ap is_own is)

-- a body that takes one actor
takes_one : (shapes : List Shape) (k : ℕ) (takes : List Taken) → IsActorAt shapes k
    → map (λ (taken : Taken). taken.kind) takes ≡ Plain (types.Named k) ∷ []
    → TakesFirst shapes takes
takes_one shapes k [] actor are = cc
takes_one shapes k (one ∷ more) actor are = record {
  k = k;
  one = one;
  more = more;
  are = refl;
  kind = (let same : one.kind ≡ Plain (types.Named k) = cc in same);
  actor = actor;
}

module _ (decls : List Decl) (rule : AsyncDefault) (world : World) (ordered : List Body)
    (keyed : AreKeyed decls) (sound : IsFirstBreach decls None)
    (is_world : IsWorldOf decls rule world)
    (are : AreOrdered (noted_tables world decls) decls ordered) (numbered : AreNumbered ordered)
  where
    abbrev tables : Tables
    tables = noted_tables world decls

    of_part : (n g : ℕ) (decl : Decl) (body : Body) → Stands decls n g decl
        → OwnKey decls body.key → PartGetter tables n 0 (props_of decl) body
        → TakesFirst world.shapes body.takes
    of_part n g decl body stands own part =
        let same = one_place decls n g decl own.n own.g
        (Actor own.word own.props own.inits own.funcs) body.key keyed stands own.stands
        (prop_key_in decl part.place part.prop body.key part.prop_at (sym part.key)) own.counted in
        takes_one world.shapes own.n body.takes
        (actor_at decls rule world is_world own.n own.g own.word own.props own.inits own.funcs
        own.stands)
        (part.takes ∙ ap (λ m. Plain (types.Named m) ∷ []) same.shapes)

    no_global : (n g : ℕ) (decl : Decl) (body : Body) → Stands decls n g decl
        → OwnKey decls body.key → GlobalGetter tables g decl body → ⊥
    no_global n g decl body stands own one =
        let same = one_place decls n g decl own.n own.g
        (Actor own.word own.props own.inits own.funcs) body.key keyed stands own.stands
        (global_key_in decl one.prop body.key one.decl_is (sym one.key)) own.counted in
        global_is (sym one.decl_is ∙ same.same) where
          global_is : Global one.prop ≡ Actor own.word own.props own.inits own.funcs → ⊥
          global_is is = cc

    -- The function of a getter takes its actor, where it is isolated to `self`.
    pub getter_gives : (key f : ℕ) → numbers_of ordered (getter_of key) ≡ Some f
        → TakesAt world.shapes (functions_of ordered) f
    unfolding function_of
    getter_gives key f found function there own =
        let bodies = program_bodies tables decls in
        let one = body_found bodies ordered are.bodies numbered (getter_of key) f found in
        let body = one.body in
        let is_getter : body.getter ≡ true =
        ap (λ (name : FunctionName). name.getter) one.named in
        let is = function_is bodies ordered body f function numbered
        (Contains-permutation bodies ordered body are.bodies one.has)
        (ap (numbers_of ordered) one.named ∙ found) there in
        let isolated = (body_calls tables decls keyed sound (numbers_of ordered) body
        one.has).isolated is_getter in
        let (noted, noted_is, noted_own) = found_own (tables.isolation.body_at body.key)
        (sym isolated ∙ ap (λ (f : Function). f.iso) is ∙ own) in
        let in_actor = own_in_actor decls rule world (answers_in (said world decls)) keyed is_world
        body.key noted noted_is noted_own in
        let made = body_made tables decls body one.has in
        subst (TakesActor world.shapes) is
        (takes_actor world.shapes (numbers_of ordered) body
        (elim (getter_in tables made.n made.g made.decl body made.has is_getter) [
          | inl part ↦ of_part made.n made.g made.decl body made.stands in_actor part.1
          | inr global ↦
              absurd (no_global made.n made.g made.decl body made.stands in_actor global)
        ]))
