-- Each call and each task in the functions of a program is of something.
use Rattle.std.proofs.Common.{◌≡◌, ℕ, zero, suc, Bool, true, false, List, [], ◌∷◌, ◌++◌}
use Rattle.std.proofs.Common.{Some, None, map, flat_map, Contains, subst, refl}
use Rattle.std.proofs.lemmas.List.Elements.{All-cons, All-contains, All-head, All-nil}
use Rattle.std.proofs.lemmas.List.Elements.{All-tail}
use Rattle.std.proofs.lemmas.List.Sorted.{Contains-permutation, IsPermutation-sym}
use Rattle.std.specs.Prelude.{All, Err, IsOk, Ok, Result, slice_get, ◌||◌, nat_lt, if◌then◌else◌}
use Rattle.std.specs.Prelude.{length}
use Rattle.sw_tree.specs.Contents.{AreKeyed}
use Rattle.sw_tree.specs.declared.decl.Decl.{Decl}
use Rattle.sw_tree.specs.declared.decl.Decl.TheVariants.{Entry, Struct, Enum, Class, Actor}
use Rattle.sw_tree.specs.declared.decl.Decl.TheVariants.{GlobalActor, Func, Global}
use Rattle.sw_tree.specs.declared.decl.FuncTree.{FuncTree}
use Rattle.sw_tree.specs.declared.decl.InitTree.{InitTree}
use Rattle.sw_tree.specs.declared.decl.PropTree.{PropTree}
use Rattle.sw_tree.specs.declared.name.Name.{Name}
use Rattle.sw_tree.proofs.Members.{of_map}
use Rattle.sw_graph.specs.Points.{Middle, End, Point, point_in, points_of}
use Rattle.sw_graph.specs.declared.function.Function.{Function}
use Rattle.sw_graph.specs.declared.function.TheConstants.{MAX_POINTS}
use Rattle.sw_graph.specs.declared.instr.Block.{Block}
use Rattle.sw_graph.specs.declared.instr.Instr.{Instr}
use Rattle.sw_graph.specs.declared.instr.Last.{Last}
use Rattle.sw_lower_builder.specs.Blocks.{new_block}
use Rattle.sw_lower_builder.specs.Unfinished.{finished}
use Rattle.sw_decl_words.specs.Evident.{meanings_of}
use Rattle.sw_decls.specs.Declaring.{IsFirstBreach}
use Rattle.sw_decl_values.specs.Profile.{no_params}
use Rattle.sw_lower_plans.specs.Plan.{Numbers}
use Rattle.sw_lower_plans.specs.Run.{Making, at_start, points}
use Rattle.sw_lower_plans.specs.declared.fault.CodeFault.{CodeFault}
use Rattle.sw_lower_plans.specs.declared.fault.CodeFault.TheVariants.{Registers, Blocks, Missing, Memory}
use Rattle.sw_lower_code.specs.Code.{Code, all}
use Rattle.sw_lower_code.specs.Whole.{Body, IsWhole, code_of, ended_by, enter, function_of}
use Rattle.sw_lower_code.specs.Whole.{lower_body, sending_of}
use Rattle.sw_lower_code.specs.declared.fault.BodyFault.{BodyFault}
use Rattle.sw_lower_code.specs.declared.fault.BodyFault.TheVariants as faults
use Rattle.sw_lower_code.specs.declared.taken.Taken.{Taken}
use Rattle.sw_lower_code.proofs.WholeFacts.{lowers_whole}
use Rattle.sw_lower_rules.specs.Bodies.{AreMade, AreOrdered, decl_bodies, functions_of}
use Rattle.sw_lower_rules.specs.Bodies.{func_tree_bodies, inits_bodies, numbers_of, program_bodies}
use Rattle.sw_lower_rules.specs.Bodies.{prop_getters}
use Rattle.sw_lower_rules.specs.Tables.{Tables}
use Rattle.sw_typing_facts.proofs.Lists.Listed.{in_place}
use Rattle.sw_lower_formed_facts.proofs.Bodies.MadeOf.{body_made, body_stands}
use Rattle.sw_typing_facts.proofs.Programs.ObjectDecls.{ObjectOk, actor_ok, class_ok}
use Rattle.sw_lower_formed_facts.proofs.Programs.SimpleInside.{simple_inside}
use Rattle.sw_typing_facts.proofs.Programs.Standing.{Stands}
use Rattle.sw_lower_call_facts.specs.Calls.{IsOfBody}
use Rattle.sw_lower_call_facts.specs.Carried.{BodyCalls}
use Rattle.sw_lower_call_facts.specs.Writing.{HoldsOnly, InBlocks, WritesOnly}
use Rattle.sw_lower_call_facts.proofs.Calls.Bodies.{Goes, both_go, func_goes, funcs_go, global_goes}
use Rattle.sw_lower_call_facts.proofs.Calls.Bodies.{inits_go, prop_getters_so}
use Rattle.sw_lower_call_facts.proofs.Writing.Joining.{writes_done, writes_then}
use Rattle.sw_lower_call_facts.proofs.Writing.Steps.{writes_bind, writes_reg}

-- what holds of each instruction of blocks holds of what stands at a point of theirs
in_block_points : (P : Instr → Type 0) (instrs : List Instr) (last : Last) (rest : List Point)
    (p : ℕ) (instr : Instr) → All P instrs
    → ((k : ℕ) → slice_get rest k ≡ Some (Middle instr) → P instr)
    → slice_get ((map Middle instrs ++ End last ∷ []) ++ rest) p ≡ Some (Middle instr) → P instr
in_block_points P [] last rest zero instr all later at = cc
in_block_points P [] last rest (suc p) instr all later at = later p at
in_block_points P (first ∷ instrs) last rest zero instr all later at =
    subst P (let same : first ≡ instr = cc in same) (All-head P first instrs all)
in_block_points P (first ∷ instrs) last rest (suc p) instr all later at =
    in_block_points P instrs last rest p instr (All-tail P first instrs all) later at

at_points : (P : Instr → Type 0) (blocks : List Block) (p : ℕ) (instr : Instr)
    → InBlocks P blocks → slice_get (points_of blocks) p ≡ Some (Middle instr) → P instr
unfolding points_of
at_points P [] p instr all at = cc
at_points P (block ∷ blocks) p instr all at =
    in_block_points P block.instrs block.last (points_of blocks) p instr
    (All-head (λ (b : Block). All P b.instrs) block blocks all)
    (λ k there. at_points P blocks k instr
    (All-tail (λ (b : Block). All P b.instrs) block blocks all) there) at

module _ (P : Instr → Type 0) (numbers : Numbers) where
  -- a body begins with what it takes
  enters_write : (takes : List Taken) → WritesOnly P numbers (all enter takes)
  unfolding all
  enters_write [] = writes_done tt
  enters_write (taken ∷ takes) =
      writes_then _ _ (writes_then _ _ (writes_reg taken.kind) (λ number. writes_bind _))
      (λ entered. enters_write takes)

  body_writes : (body : Body) → WritesOnly P numbers body.code → WritesOnly P numbers (code_of body)
  unfolding code_of
  body_writes body so = writes_then _ _ (enters_write body.takes) (λ entered. so)

  -- the function that is made of a body
  made_writes : (body : Body) (function : Function) → WritesOnly P numbers body.code
      → lower_body numbers body ≡ Ok function → InBlocks P function.blocks
  unfolding lower_body
  made_writes body function so made =
      by (code.run start) refl made where
        start : Making
        start = at_start numbers body.key body.iso body.is_async

        code : Code (Unit {0})
        code = code_of body

        begun : HoldsOnly P numbers start
        begun = record {
          written = All-cons (λ (b : Block). All P b.instrs) new_block [] (All-nil P)
              (All-nil (λ (b : Block). All P b.instrs));
          number = refl;
        }

        done : (t : Making) (large : Bool) → InBlocks P t.made.blocks
            → (if large then Err (faults.TooManyPoints body.key)
            else Ok (finished t.made (length body.takes) (sending_of body) body.sends
            body.result)) ≡ Ok function → InBlocks P function.blocks
        done t true all is = cc
        done t false all is =
            let same : finished t.made (length body.takes) (sending_of body) body.sends
            body.result ≡ function = cc in
            subst (λ (f : Function). InBlocks P f.blocks) same all

        by : (result : Result (Unit {0} × Making) CodeFault) → code.run start ≡ result
            → ended_by body result ≡ Ok function → InBlocks P function.blocks
        by (Ok at) ran is =
            done at.1 (at.1.over || nat_lt MAX_POINTS (points at.1))
            ((body_writes body so).keeps start at.1 at.0 begun ran).written is
        by (Err Registers) ran is = cc
        by (Err Blocks) ran is = cc
        by (Err Missing) ran is = cc
        by (Err Memory) ran is = cc

  -- it is that of the body's plan
  function_writes : (body : Body) → WritesOnly P numbers body.code → IsOk (lower_body numbers body)
      → InBlocks P (function_of numbers body).blocks
  function_writes body so made =
      by (lower_body numbers body) refl (lowers_whole numbers body) made where
        by : (result : Result Function BodyFault) → lower_body numbers body ≡ result
            → IsWhole numbers body result → IsOk result
            → InBlocks P (function_of numbers body).blocks
        by (Ok function) is whole made =
            subst (λ (f : Function). InBlocks P f.blocks) whole.0
            (made_writes body function so is)
        by (Err fault) is whole made = cc

module _ (tables : Tables) (decls : List Decl) (keyed : AreKeyed decls)
    (sound : IsFirstBreach decls None) (numbers : Numbers) where
  abbrev bodies : List Body
  bodies = program_bodies tables decls

  abbrev Going : List Body → Type 0
  Going some = Goes tables numbers bodies some

  -- what is made of a class or an actor
  object_goes : (n : ℕ) (word : Name) (props : List PropTree) (inits : List InitTree)
      (funcs : List FuncTree) → ObjectOk (meanings_of decls) n props inits
      → Going (prop_getters tables n 0 props ++ inits_bodies tables n props word inits
      ++ flat_map (func_tree_bodies tables) funcs)
  object_goes n word props inits funcs object =
      both_go tables numbers bodies _ _
      (both_go tables numbers bodies _ _
      (λ are. prop_getters_so tables numbers bodies n 0 props)
      (inits_go tables numbers bodies n props
      (λ prop has value is.
      simple_inside tables (Some n) (meanings_of decls) (Some n) no_params value
      (object.firsts prop value has is)) word inits))
      (funcs_go tables numbers bodies funcs)

  decl_goes : (n g : ℕ) (decl : Decl) → Stands decls n g decl → Going (decl_bodies tables n g decl)
  unfolding decl_bodies
  decl_goes n g (Entry word written at is_async body) stands =
      func_goes tables numbers bodies at [] body
  decl_goes n g (Struct word conforms fields funcs) stands = funcs_go tables numbers bodies funcs
  decl_goes n g (Enum word conforms cases funcs) stands = funcs_go tables numbers bodies funcs
  decl_goes n g (Class written word conforms props inits funcs) stands =
      object_goes n word props inits funcs
      (class_ok decls keyed sound n g written word conforms props inits funcs stands)
  decl_goes n g (Actor word props inits funcs) stands =
      object_goes n word props inits funcs
      (actor_ok decls keyed sound n g word props inits funcs stands)
  decl_goes n g (GlobalActor word made) stands = λ are. All-nil (BodyCalls tables numbers bodies)
  decl_goes n g (Func func) stands =
      func_goes tables numbers bodies func.word.at func.params func.body
  decl_goes n g (Global prop) stands = global_goes tables numbers bodies g prop

  -- each body of the program
  pub body_calls : (body : Body) → Contains bodies body → BodyCalls tables numbers bodies body
  body_calls body has =
      let made = body_made tables decls body has in
      All-contains (BodyCalls tables numbers bodies) (decl_bodies tables made.n made.g made.decl)
      body
      (decl_goes made.n made.g made.decl made.stands
      (λ one there. body_stands tables decls made.n made.g made.decl one made.stands there))
      made.has

-- what holds of the code of each body holds of each instruction
pub instr_by : (tables : Tables) (decls : List Decl) (ordered bodies : List Body)
    → AreOrdered tables decls ordered → AreMade ordered
    → ((body : Body) → Contains (program_bodies tables decls) body
    → BodyCalls tables (numbers_of ordered) bodies body) → (n p : ℕ) (function : Function)
    (instr : Instr) → slice_get (functions_of ordered) n ≡ Some function
    → point_in function p ≡ Some (Middle instr) → IsOfBody tables (numbers_of ordered) bodies instr
instr_by tables decls ordered bodies are made each n p function instr there at =
    let numbers = numbers_of ordered in
    let P = IsOfBody tables numbers bodies in
    let (body, has, same) = of_map (function_of numbers) ordered function
    (in_place (functions_of ordered) n function there) in
    let so = each body
    (Contains-permutation ordered (program_bodies tables decls) body
    (IsPermutation-sym (program_bodies tables decls) ordered are.bodies) has) in
    at_points P function.blocks p instr
    (subst (λ (f : Function). InBlocks P f.blocks) same
    (function_writes P numbers body so.code
    (All-contains (λ (one : Body). IsOk (lower_body numbers one)) ordered body made has))) at

-- each call and each task in a function of the program
pub function_calls : (tables : Tables) (decls : List Decl) (ordered : List Body) → AreKeyed decls
    → IsFirstBreach decls None → AreOrdered tables decls ordered → AreMade ordered → (n p : ℕ)
    (function : Function) (instr : Instr) → slice_get (functions_of ordered) n ≡ Some function
    → point_in function p ≡ Some (Middle instr)
    → IsOfBody tables (numbers_of ordered) (program_bodies tables decls) instr
function_calls tables decls ordered keyed sound are made n p function instr there at =
    instr_by tables decls ordered (program_bodies tables decls) are made
    (body_calls tables decls keyed sound (numbers_of ordered)) n p function instr there at
