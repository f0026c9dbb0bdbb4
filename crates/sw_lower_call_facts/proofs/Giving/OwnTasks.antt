-- A task that is isolated to `self` takes its actor first.
use Rattle.std.proofs.Common.{◌≡◌, ℕ, Bool, true, false, not, List, [], ◌∷◌, ◌++◌, Some, None, map}
use Rattle.std.proofs.Common.{refl, sym, ap, ◌∙◌, subst, arith, Contains}
use Rattle.std.proofs.lemmas.List.Sorted.{Contains-permutation}
use Rattle.std.specs.Prelude.{◌&&◌, if◌then◌else◌}
use Rattle.sw_tree.specs.declared.decl.Decl.{Decl}
use Rattle.sw_tree.specs.declared.decl.Decl.TheVariants.{Actor}
use Rattle.sw_tree.specs.declared.decl.FuncTree.{FuncTree}
use Rattle.sw_tree.specs.declared.decl.InitTree.{InitTree}
use Rattle.sw_tree.specs.declared.decl.PropTree.{PropTree}
use Rattle.sw_tree.specs.declared.name.Name.{Name}
use Rattle.sw_types.specs.declared.shape.ShapeKind.TheVariants as kinds
use Rattle.sw_types.specs.declared.ty.Ty.{Ty}
use Rattle.sw_types.specs.declared.ty.Ty.TheVariants as types
use Rattle.sw_graph.specs.declared.function.Function.{Function}
use Rattle.sw_graph.specs.declared.function.RegKind.TheVariants.{BoxOf, Plain}
use Rattle.sw_decl_words.specs.Evident.{meanings_of}
use Rattle.sw_decl_words.specs.Shaped.{part_of, shape_of}
use Rattle.sw_decls.specs.declared.signature.AsyncDefault.{AsyncDefault}
use Rattle.sw_typing_rules.specs.Programs.{said}
use Rattle.sw_typing_rules.specs.Worlds.{World}
use Rattle.sw_isolation_rules.specs.Answers.{Answers, answers_in}
use Rattle.sw_isolation_rules.specs.Captures.{is_among, self_of}
use Rattle.sw_isolation_rules.specs.Lists.{capture_of, vars_in}
use Rattle.sw_isolation_rules.specs.declared.note.Capture.{Capture}
use Rattle.sw_isolation_rules.specs.declared.note.Note.{Note}
use Rattle.sw_graph.specs.Supplied.{TakesActor}
use Rattle.sw_lower_code.specs.Whole.{Body, function_of}
use Rattle.sw_lower_rules.specs.Bodies.{AreNumbered, AreOrdered, functions_of, numbers_of}
use Rattle.sw_lower_rules.specs.Bodies.{program_bodies}
use Rattle.sw_lower_rules.specs.Carriers.{ClosureCode}
use Rattle.sw_lower_rules.specs.Expressions.{capture_taken, captured_kind, closure_body}
use Rattle.sw_lower_rules.specs.Expressions.{closure_param_taken, task_body}
use Rattle.sw_lower_rules.specs.Tables.{Tables, or_void}
use Rattle.sw_typing_facts.proofs.Lists.Listed.{in_first}
use Rattle.sw_typing_facts.proofs.Programs.DeclStands.{shape_there}
use Rattle.sw_typing_facts.proofs.Programs.Keyed.{one_place}
use Rattle.sw_lower_formed_facts.proofs.Bodies.MadeOf.{body_stands}
use Rattle.sw_typing_facts.proofs.Programs.Standing.{Stands, maker_of}
use Rattle.sw_lower_total_facts.specs.Noted.{held_of}
use Rattle.sw_lower_total_facts.specs.Programs.{IsWelltyped, noted_tables, notes_of}
use Rattle.sw_lower_total_facts.proofs.Closures.Kept.{in_among}
use Rattle.sw_lower_total_facts.proofs.Closures.Noted.{captures_are_held}
use Rattle.sw_lower_total_facts.proofs.Standing.Ordered.{self_words}
use Rattle.sw_lower_total_facts.proofs.Standing.Programs.{selves_no_var}
use Rattle.sw_lower_call_facts.specs.Calls.{TaskOf}
use Rattle.sw_lower_call_facts.specs.Given.{TakesAt}
use Rattle.sw_lower_call_facts.specs.Taking.{TakesFirst}
use Rattle.sw_lower_call_facts.proofs.BodyNotes.Programs.{found_good}
use Rattle.sw_lower_call_facts.proofs.Calls.Insides.{inside_made, inside_of, insides}
use Rattle.sw_lower_call_facts.proofs.Functions.Methods.{function_is}
use Rattle.sw_lower_call_facts.proofs.Functions.Owners.{actor_at}
use Rattle.sw_lower_call_facts.proofs.Functions.Taking.{takes_actor}
use Rattle.sw_lower_call_facts.proofs.Giving.Getters.{found_own}
use Rattle.sw_lower_call_facts.proofs.Giving.Deep.{deep_counted}
use Rattle.sw_lower_call_facts.proofs.Giving.Held.{Good, HeldIn, actors_held}
use Rattle.sw_lower_call_facts.proofs.Giving.Places.{actor_inside, inside_deep}
use Rattle.sw_lower_call_facts.proofs.Holding.Noted.{KeyBegins}

module _ (decls : List Decl) (rule : AsyncDefault) (world : World)
    (is : IsWelltyped decls rule world) where
  abbrev tables : Tables
  tables = noted_tables world decls

  abbrev answers : Answers
  answers = answers_in (said world decls)

  abbrev all : List Note
  all = notes_of world decls

  module _ (n g : ℕ) (word : Name) (props : List PropTree) (inits : List InitTree)
      (funcs : List FuncTree) (stands : Stands decls n g (Actor word props inits funcs)) where
    -- The word of an actor is no `var`.
    word_fixed : is_among (vars_in all) word.at ≡ false
    unfolding shape_of
    word_fixed =
        selves_no_var decls rule world answers is.keyed is.scoped is.declared n
        (record {
          kind = kinds.Actor;
          at = word.at;
          conforms = false;
          actor = None;
          parts = map (part_of (meanings_of decls) (Some n)) props;
          cases = [];
        })
        (shape_there decls rule world is.declared n g (Actor word props inits funcs) _ stands refl)

    -- So it is captured by its value, which is the actor.
    captured_actor : (one : Capture) → one.variable ≡ word.at → one.by_ref ≡ false
        → captured_kind tables (Some n) one ≡ Plain (types.Named n)
    captured_actor one same by_value =
        let mine : is_among (self_of world (Some n)) one.variable ≡ true =
        in_among (self_of world (Some n)) one.variable
        (subst (λ list. Contains list one.variable)
        (sym (self_words decls rule world is.declared n g (Actor word props inits funcs) stands))
        (subst (Contains (word.at ∷ [])) (sym same) (in_first word.at []))) in
        ap (λ (by_ref : Bool). if by_ref
        then BoxOf (if is_among (self_of world (Some n)) one.variable then types.Named n
        else or_void (tables.answers.type_at one.variable))
        else Plain (if is_among (self_of world (Some n)) one.variable then types.Named n
        else or_void (tables.answers.type_at one.variable))) by_value
        ∙ ap (λ (self : Bool). Plain (if self then types.Named n
        else or_void (tables.answers.type_at one.variable))) mine

    first_taken : (c : ℕ) (closure : ClosureCode) (result : Ty) → closure.at ≡ c
        → KeyBegins c word.at all
        → TakesFirst world.shapes (closure_body tables (Some n) closure result).takes
    unfolding closure_body
    first_taken c closure result same begins =
        let make = capture_of (vars_in all) in
        let one = make begins.first in
        let params = map (closure_param_taken tables) closure.params in
        record {
          k = n;
          one = capture_taken tables (Some n) one;
          more = map (capture_taken tables (Some n)) (map make begins.more) ++ params;
          are = ap (λ captures. map (capture_taken tables (Some n)) captures ++ params)
              (captures_are_held tables all refl closure.at
              ∙ ap (map make) (ap (λ key. held_of key all) same ∙ begins.are));
          kind = captured_actor one begins.is
              (ap (λ (var : Bool). var && not begins.first.listed)
              (ap (is_among (vars_in all)) begins.is ∙ word_fixed));
          actor = actor_at decls rule world is.declared n g word props inits funcs stands;
        }

  module _ (ordered : List Body) (are : AreOrdered tables decls ordered)
      (numbered : AreNumbered ordered) where
    pub task_takes : (f : ℕ) → TaskOf tables (numbers_of ordered) (insides tables decls) f
        → TakesAt world.shapes (functions_of ordered) f
    unfolding closure_body function_of
    task_takes f of task there own =
        let c = of.closure.at in
        let body = task_body tables of.owner of.closure of.result in
        let place = maker_of (inside_of tables) 0 0 decls body of.has in
        let task_is = function_is (program_bodies tables decls) ordered body f task numbered
        (Contains-permutation (program_bodies tables decls) ordered body are.bodies
        (body_stands tables decls place.n place.g place.decl body place.stands
        (inside_made tables body place.n place.g place.decl place.has))) of.numbered there in
        let (noted, noted_is, noted_own) = found_own (tables.isolation.body_at c)
        (ap (λ (one : Function). one.iso) task_is ∙ own) in
        let deep = inside_deep tables c place.n place.g place.decl body place.has refl in
        let held : HeldIn decls world c =
        found_good decls rule world answers is.keyed is.declared (Good decls rule world is c)
        (actors_held decls rule world is c place.n place.g place.decl place.stands deep) c noted
        noted_is noted_own refl in
        let actor = Actor held.word held.props held.inits held.funcs in
        let same = one_place decls place.n place.g place.decl held.n held.g actor c is.keyed
        place.stands held.stands (omega (arith, deep, deep_counted place.decl c)) held.counted in
        let inner : Contains (inside_of tables held.n held.g actor) body =
        subst (λ decl. Contains (inside_of tables held.n held.g decl) body) same.same
        (subst (λ g. Contains (inside_of tables held.n g place.decl) body) same.globals
        (subst (λ n. Contains (inside_of tables n place.g place.decl) body) same.shapes
        place.has)) in
        let one = actor_inside tables decls rule is.keyed is.declared held.n held.g held.word
        held.props held.inits held.funcs held.stands body inner in
        subst (TakesActor world.shapes) task_is
        (takes_actor world.shapes (numbers_of ordered) body
        (subst (λ (one : Body). TakesFirst world.shapes one.takes) (sym one.is)
        (first_taken held.n held.g held.word held.props held.inits held.funcs held.stands c
        one.closure one.result (sym (ap (λ (one : Body). one.key) one.is)) held.begins)))
