-- Each body of a program proceeds.
use Rattle.std.proofs.Common.{◌≡◌, ℕ, List, [], Some, Contains, subst, sym, false, ◌∙◌}
use Rattle.sw_list.proofs.Members.{none_in}
use Rattle.sw_tree.specs.declared.decl.Decl.{Decl}
use Rattle.sw_tree.specs.declared.decl.Decl.TheVariants.{Entry, Global}
use Rattle.sw_tree.specs.declared.decl.InitTree.{InitTree}
use Rattle.sw_tree.specs.declared.decl.PropTree.{PropTree}
use Rattle.sw_tree.specs.declared.expr.Expr.{Expr}
use Rattle.sw_tree_facts.specs.Unwritten.{AreWritten, decl_unwritten, expr_unwritten}
use Rattle.sw_decls.specs.declared.signature.AsyncDefault.{AsyncDefault}
use Rattle.sw_typing_rules.specs.Worlds.{World}
use Rattle.sw_isolation_rules.specs.Kinds.{shape_iso}
use Rattle.sw_isolation_rules.specs.Programs.{context_of}
use Rattle.sw_lower_plans.specs.Plan.{Numbers}
use Rattle.sw_lower_rules.specs.Bodies.{program_bodies}
use Rattle.sw_lower_rules.specs.Tables.{Tables}
use Rattle.sw_lower_formed_facts.proofs.Bodies.EachForm.{FormsGive, IsObjectAt, program_gives}
use Rattle.sw_typing_facts.proofs.Lists.Joined.{Gives}
use Rattle.sw_typing_facts.proofs.Lists.Listed.{in_first}
use Rattle.sw_typing_facts.proofs.Programs.DeclParts.{inits_in}
use Rattle.sw_typing_facts.proofs.Programs.Standing.{Stands}
use Rattle.sw_lower_total_facts.specs.Proceeding.{BodyProceeds, BodyIsNumbered}
use Rattle.sw_lower_total_facts.specs.Programs.{noted_tables, notes_of}
use Rattle.sw_lower_total_facts.specs.Trees.{ExprStands}
use Rattle.sw_lower_total_facts.proofs.Bodies.AllStand.{AllStand}
use Rattle.sw_lower_total_facts.proofs.Bodies.DeclTasks.{decl_without, func_without, init_without}
use Rattle.sw_lower_total_facts.proofs.Bodies.DeclTasks.{prop_without, value_without}
use Rattle.sw_lower_total_facts.proofs.Bodies.FuncTrees.{keyed_proceed, tree_proceeds}
use Rattle.sw_lower_total_facts.proofs.Bodies.Getters.{prop_getters_proceed}
use Rattle.sw_lower_total_facts.proofs.Bodies.Given.{IsProgram}
use Rattle.sw_lower_total_facts.proofs.Bodies.GlobalBodies.{globals_proceed}
use Rattle.sw_lower_total_facts.proofs.Bodies.InitBodies.{default_proceeds, inits_proceed}
use Rattle.sw_lower_total_facts.proofs.Standing.Declared.{global_iso}

module _ (world : World) (decls : List Decl) (rule : AsyncDefault) (number : Numbers)
    (program : IsProgram world decls rule number) (all_stand : AllStand world decls number)
    (tasks : AreWritten decls) where
  abbrev tables : Tables
  tables = noted_tables world decls

  without : (n g : ℕ) (decl : Decl) → Stands decls n g decl → decl_unwritten decl ≡ []
  without = decl_without decls tasks

  -- the first values of a class or an actor stand
  firsts : (n g : ℕ) (decl : Decl) (props : List PropTree) (inits : List InitTree)
      (object : IsObjectAt world decls n g decl props inits) (prop : PropTree) (value : Expr)
      → Contains props prop → prop.value ≡ Some value
      → ExprStands tables number (notes_of world decls)
      (context_of (shape_iso object.shape) false (Some n)) [] [] value × (expr_unwritten value ≡ [])
  firsts n g decl props inits object prop value has is =
      let among = subst (λ some. Contains some prop) (sym object.props_are) has in (
        all_stand.props n g decl object.stands prop object.shape value among object.there is,
        value_without prop value
            (prop_without decl prop (without n g decl object.stands) among) is,
      )

  -- the bodies of each form
  forms : FormsGive world decls rule tables (BodyIsNumbered number) (BodyProceeds number)
  forms = record {
    getters = λ n props numbered. prop_getters_proceed tables number n 0 props;
    trees = λ n g decl owner actor tree stands has declared typed.
        tree_proceeds world decls rule number program n g decl owner actor tree stands declared
        typed
        (λ func is. all_stand.funcs n g decl stands tree func has is)
        (func_without decl tree (without n g decl stands) has)
        (all_stand.func_params n g decl stands tree has);
    entry = λ n g word written at is_async body stands one declared same typed.
        keyed_proceed world decls rule number program at at [] body one declared same typed
        (λ func is. all_stand.entries n g word written at is_async body func stands is)
        (without n g (Entry word written at is_async body) stands)
        (λ param has. absurd (none_in param has));
    globals = λ n g prop stands.
        globals_proceed world decls rule number program n g prop stands
        (global_iso world tables.answers prop)
        (λ value is. (
          all_stand.globals n g prop value stands is,
          value_without prop value (without n g (Global prop) stands) is,
        ));
    default = λ n g decl word actor props inits object none declared.
        default_proceeds world decls rule number program n props inits object.ok object.valued
        object.shape object.there object.parts object.values
        (firsts n g decl props inits object) word none;
    init = λ n g decl word actor props inits object init more are declared typed.
        let among : Contains (inits_in decl) init =
        subst (λ some. Contains some init) (sym (object.inits_are ∙ are)) (in_first init more) in
        inits_proceed world decls rule number program n props inits object.ok object.valued
        object.shape object.there object.parts object.values
        (firsts n g decl props inits object) init more are word actor declared typed
        (λ signed found. all_stand.inits n g decl object.stands init signed among found)
        (init_without decl init (without n g decl object.stands) among)
        (all_stand.init_params n g decl object.stands init among);
  }

  -- Where the functions of a program have numbers and its trees stand, and no body of a task has a
  -- parameter, the bodies of the program proceed.
  pub program_proceeds : Gives (BodyIsNumbered number) (BodyProceeds number)
      (program_bodies tables decls)
  program_proceeds =
      program_gives world decls rule tables (BodyIsNumbered number) (BodyProceeds number) forms
      program.keyed program.declared program.sound
