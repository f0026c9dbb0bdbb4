-- Closures and tasks that are made.
use Rattle.std.proofs.Common.{◌≡◌, ◌≢◌, ℕ, Bool, true, false, not, List, [], ◌∷◌, ◌++◌, Option}
use Rattle.std.proofs.Common.{Some, None, refl, ap, sym, ◌∙◌, subst, Contains}
use Rattle.std.proofs.lemmas.Bool.{false≢true}
use Rattle.std.specs.Option.{option_map}
use Rattle.std.specs.Prelude.{if◌then◌else◌}
use Rattle.sw_tree.specs.declared.expr.Expr.TheOpen as layer
use Rattle.sw_tree.specs.declared.name.Name.{Name}
use Rattle.sw_types.specs.Sendable.{is_sendable, layer_sends, sends_at}
use Rattle.sw_types.specs.declared.isolation.Iso.{Iso}
use Rattle.sw_types.specs.declared.isolation.Iso.TheVariants as iso
use Rattle.sw_types.specs.declared.shape.Shape.{Shape}
use Rattle.sw_types.specs.declared.ty.Ty.{Ty, out-Ty, out-roll-Ty}
use Rattle.sw_types.specs.declared.ty.Ty.TheOpen as form
use Rattle.sw_types.specs.declared.ty.Ty.TheVariants.{rolls-Unit}
use Rattle.sw_types.specs.declared.ty.Ty.TheVariants as types
use Rattle.sw_graph.specs.Bodies.{is_own}
use Rattle.sw_graph.specs.declared.instr.Instr.TheVariants as instr
use Rattle.sw_graph.specs.declared.instr.Operand.{Operand}
use Rattle.sw_decl_words.specs.Shaped.{actor_of}
use Rattle.sw_decls.specs.Signatures.{actor_iso}
use Rattle.sw_typing_rules.specs.Statements.{marked_type}
use Rattle.sw_typing_rules.specs.Worlds.{item}
use Rattle.sw_typing_rules.proofs.Steps.{not_false}
use Rattle.sw_isolation_rules.specs.Answers.{for_some}
use Rattle.sw_isolation_rules.specs.Captures.{self_of}
use Rattle.sw_isolation_rules.specs.Kinds as kinds
use Rattle.sw_isolation_rules.specs.Kinds.{inherited}
use Rattle.sw_isolation_rules.specs.Noting.{Linked, Notes, Seen, NotedClosure, body_note}
use Rattle.sw_isolation_rules.specs.Noting.{closure_iso}
use Rattle.sw_isolation_rules.specs.Noting.{closure_layer, fun_notes, in_closure}
use Rattle.sw_isolation_rules.specs.Noting.{task_iso, task_notes, task_races, task_result}
use Rattle.sw_isolation_rules.specs.Noting.{result_races}
use Rattle.sw_isolation_rules.specs.declared.note.BodyIso.{BodyIso}
use Rattle.sw_isolation_rules.specs.declared.note.Capture.{Capture}
use Rattle.sw_isolation_rules.specs.declared.note.Note.{Note}
use Rattle.sw_isolation_rules.specs.declared.note.Note.TheVariants.{Body}
use Rattle.sw_isolation_rules.specs.declared.uses.Context.{Context}
use Rattle.sw_lower_plans.specs.Run.{Making}
use Rattle.sw_lower_code.specs.Code.{number, ◌>>=◌}
use Rattle.sw_lower_rules.specs.Carriers.{ClosureCode}
use Rattle.sw_lower_rules.specs.Expressions.{captured, closure_body, fun_read, is_async_of, iso_of}
use Rattle.sw_lower_rules.specs.Expressions.{spawn_read, spawn_result, task_body}
use Rattle.sw_lower_rules.specs.Tables.{or_void, plain}
use Rattle.sw_lower_rules.specs.Uses.{give, self_key, typed}
use Rattle.sw_lower_formed_facts.specs.Ground.{Ground}
use Rattle.sw_typing_facts.proofs.Lists.Listed.{in_first}
use Rattle.sw_lower_placed_facts.specs.Allowed.{ClosureOk, RegisterHasType, IsNoted, SharesNone, TaskOk}
use Rattle.sw_lower_placed_facts.specs.Claims.{AreNoted}
use Rattle.sw_lower_placed_facts.specs.Placing.{IsMe, PlacesAt}
use Rattle.sw_lower_placed_facts.specs.Settled.{BeginsWith, IsSettled}
use Rattle.sw_lower_placed_facts.specs.Hosts.{FirstIsOwn, IsSeenFrom, IsHost, Program, Host}
use Rattle.sw_lower_placed_facts.proofs.Placing.Asking.{places_number_then, places_typed_then}
use Rattle.sw_lower_placed_facts.proofs.Placing.Giving.{next_apart}
use Rattle.sw_lower_placed_facts.proofs.Placing.Joining.{places_then, places_weaker}
use Rattle.sw_lower_placed_facts.proofs.Uses.Captures.{AreCaptures, CapturesOk, captured_placed}
use Rattle.sw_lower_placed_facts.proofs.Uses.Captures.{captures_below, captures_cross, captures_ok}
use Rattle.sw_lower_placed_facts.proofs.Uses.Captures.{captures_own, captures_stay}
use Rattle.sw_lower_placed_facts.proofs.Uses.Noted.{noted_left, noted_right, race_none}
use Rattle.sw_lower_placed_facts.proofs.Uses.Using.{MadeValue, give_made}
use Rattle.sw_lower_placed_facts.proofs.Uses.Variables.{me_is}

-- the layer of what is noted of a closure
abbrev pub ClosureNotes : Type 0
ClosureNotes = layer.Closure-F Seen Notes Notes NotedClosure Linked Notes Notes Notes

-- isolated to `self` by the words of the rules
own_said : (one : Iso) → is_own one ≡ true → kinds.is_own one ≡ true
own_said iso.Free own = own
own_said iso.Own own = refl
own_said (iso.Global actor) own = own
own_said iso.Caller own = own

-- What is inherited as isolated to `self` is so around.
inherited_own : (around : Iso) → is_own (inherited around) ≡ true → is_own around ≡ true
inherited_own iso.Free own = own
inherited_own iso.Own own = refl
inherited_own (iso.Global actor) own = own
inherited_own iso.Caller own = absurd (false≢true own)

inherited_apart : (around : Iso) → inherited around ≢ iso.Caller
inherited_apart iso.Free same = cc
inherited_apart iso.Own same = cc
inherited_apart (iso.Global actor) same = cc
inherited_apart iso.Caller same = cc

actor_apart : (actor : Option ℕ) → actor_iso actor ≢ iso.Caller
actor_apart None same = cc
actor_apart (Some actor) same = cc

actor_no_own : (actor : Option ℕ) → is_own (actor_iso actor) ≡ true → ⊥
actor_no_own None own = absurd (false≢true own)
actor_no_own (Some actor) own = absurd (false≢true own)

-- `Void` may cross.
void_sends : (shapes : List Shape) → is_sendable shapes types.Unit ≡ true
void_sends shapes =
    ap (layer_sends (sends_at shapes)) (ap out-Ty (sym rolls-Unit) ∙ out-roll-Ty form.Unit)

module _ (program : Program) (host : Host) (settled : IsSettled program)
    (is_host : IsHost program host)
    (ground : Ground program.tables program.numbers program.functions) where
  -- the isolation of the body of a task, by what is around it
  abbrev pub spawn_in : Option Name → Bool → Iso → Iso
  spawn_in mark detached around =
      task_iso program.tables.world mark detached around

  -- the isolation of a closure's body, and of a task's
  abbrev pub fun_iso : ℕ → Iso
  fun_iso at = closure_iso program.tables.answers at host.iso

  abbrev pub spawn_iso : Option Name → Bool → Iso
  spawn_iso mark detached = spawn_in mark detached host.iso

  -- A closure that is isolated to `self` stands in a body that is so,
  pub fun_own : (at : ℕ) → is_own (fun_iso at) ≡ true → is_own host.iso ≡ true
  unfolding closure_iso
  fun_own at own = by (marked_type (program.tables.answers.type_at at)) own where
    by : (marked : Bool) → is_own (if marked then iso.Free else inherited host.iso) ≡ true
        → is_own host.iso ≡ true
    by true own = absurd (false≢true own)
    by false own = inherited_own host.iso own

  -- and so does a task,
  pub spawn_own : (mark : Option Name) (detached : Bool) → is_own (spawn_iso mark detached) ≡ true
      → is_own host.iso ≡ true
  unfolding task_iso
  spawn_own None true own = absurd (false≢true own)
  spawn_own None false own = inherited_own host.iso own
  spawn_own (Some mark) detached own =
      absurd (actor_no_own (actor_of (program.tables.world.known.top mark.id)) own)

  -- which doesn't run where its caller runs.
  spawn_apart : (mark : Option Name) (detached : Bool) → spawn_iso mark detached ≢ iso.Caller
  unfolding task_iso
  spawn_apart None true same = cc
  spawn_apart None false same = inherited_apart host.iso same
  spawn_apart (Some mark) detached same =
      actor_apart (actor_of (program.tables.world.known.top mark.id)) same

  -- the notes of a body are found by its key
  body_noted : (at : ℕ) (one : Iso) (is_async : Bool) (more : List Note)
      → AreNoted program (body_note at one is_async ∷ more) → IsNoted program at one is_async
  body_noted at one is_async more noted =
      let body : BodyIso = record { key = at; iso = one; is_async = is_async } in
      let found = settled.noted body (noted (Body body) (in_first (Body body) more) refl) in
      record { iso_is = ap iso_of found; async_is = ap is_async_of found }

  -- The word of `self` is what is held.
  me_held : (me : ℕ) → IsMe program host me → Contains (self_of program.tables.world host.owner) me
  me_held me mine =
      let is = me_is program host me mine in
      subst (λ list. Contains list me)
      (sym (ap (self_of program.tables.world) is.owner_is
      ∙ ap (λ found. for_some found (λ (shape : Shape). shape.at ∷ [])) is.at))
      (subst (Contains (is.shape.at ∷ [])) is.word (in_first is.shape.at []))

  -- A body that is isolated to `self` has one.
  pub own_me : is_own host.iso ≡ true → (me : ℕ) × IsMe program host me
  unfolding self_key
  own_me own =
      let (k, owner_is, actor) = is_host.actor own in (
        actor.shape.at,
        ap (λ o. option_map (λ (shape : Shape). shape.at) (item o program.tables.world.shapes))
            owner_is
            ∙ ap (option_map (λ (shape : Shape). shape.at)) actor.at,
      )

  -- What is isolated to `self` begins its captures with that,
  pub body_begins : (code : ClosureCode) (result : Ty) (one : Iso) (is_async : Bool) (me : ℕ)
      → Contains program.inside (closure_body program.tables host.owner code result)
      → IsNoted program code.at one is_async → is_own one ≡ true → IsMe program host me
      → BeginsWith (program.tables.isolation.captures_of code.at) me
  body_begins code result one is_async me has noted own mine =
      settled.held host.owner code result me has
      (ap kinds.is_own noted.iso_is ∙ own_said one own) (me_held me mine)

  -- and has it first where it is made.
  body_holds : (code : ClosureCode) (result : Ty) (one : Iso) (is_async : Bool)
      (xs : List Operand) (t : Making)
      → Contains program.inside (closure_body program.tables host.owner code result)
      → IsNoted program code.at one is_async → (is_own one ≡ true → is_own host.iso ≡ true)
      → AreCaptures program host settled is_host ground
      (program.tables.isolation.captures_of code.at) xs t
      → one ≡ iso.Own → FirstIsOwn host xs
  body_holds code result one is_async xs t has noted around are same =
      let own : is_own one ≡ true = ap is_own same in
      let (me, mine) = own_me (around own) in
      captures_own program host settled is_host ground
      (program.tables.isolation.captures_of code.at) xs t me are mine
      (body_begins code result one is_async me has noted own mine)

  -- what is noted of the body of a closure
  pub fun_noted : (closure : ClosureNotes) (at : ℕ) (context : Context) (listed : List ℕ)
      → closure.at ≡ at → IsSeenFrom host context
      → AreNoted program (fun_notes program.tables.world program.tables.answers
      (closure_layer program.tables.world program.tables.answers closure) context listed)
      → IsNoted program at (fun_iso at) false
  fun_noted closure at context listed same seen noted =
      subst (λ key. IsNoted program key (fun_iso key) false) same
      (subst (λ around. IsNoted program closure.at
      (closure_iso program.tables.answers closure.at around) false) seen.iso
      (body_noted closure.at
      (closure_iso program.tables.answers closure.at context.iso) false _
      noted))

  -- and of a task
  pub spawn_noted : (at : ℕ) (detached : Bool) (closure : ClosureNotes) (key : ℕ)
      (context : Context) (listed : List ℕ) → closure.at ≡ key → IsSeenFrom host context
      → AreNoted program (task_notes program.tables.world program.tables.answers at detached
      (closure_layer program.tables.world program.tables.answers closure) context listed)
      → IsNoted program key (spawn_iso closure.mark detached) true
  spawn_noted at detached closure key context listed same seen noted =
      subst (λ one. IsNoted program one (spawn_iso closure.mark detached) true) same
      (subst (λ around. IsNoted program closure.at
      (spawn_in closure.mark detached around) true) seen.iso
      (body_noted closure.at (spawn_in closure.mark detached context.iso) true _ noted))

  -- The result of a task may cross.
  result_crosses : SharesNone program → (at : ℕ) (found : Option Ty)
      → AreNoted program (result_races program.tables.world at found)
      → is_sendable program.tables.world.shapes (or_void found) ≡ true
  result_crosses shares at None noted = void_sends program.tables.world.shapes
  result_crosses shares at (Some ty) noted =
      not_false (is_sendable program.tables.world.shapes ty)
      (race_none program shares (not (is_sendable program.tables.world.shapes ty)) at 605 noted)

  task_crosses : SharesNone program → (at : ℕ) (detached : Bool) (closure : ClosureNotes)
      (context : Context) (listed : List ℕ)
      → AreNoted program (task_notes program.tables.world program.tables.answers at detached
      (closure_layer program.tables.world program.tables.answers closure) context listed)
      → is_sendable program.tables.world.shapes (spawn_result program.tables host.owner at) ≡ true
  unfolding task_races
  task_crosses shares at detached closure context listed noted =
      let one = spawn_in closure.mark detached context.iso in
      let found = task_result (program.tables.answers.type_at at) in
      let inside = (closure_layer program.tables.world program.tables.answers closure).inside
      (in_closure context one true) listed in
      result_crosses shares at found
      (noted_left program
      (result_races program.tables.world at found) inside
      (noted_right program (body_note closure.at one true ∷ [])
      (result_races program.tables.world at found ++ inside) noted))

  -- what is known after a closure or a task was made
  abbrev pub MadeClosure : ℕ → Operand → Making → Type 0
  MadeClosure closure x t =
      MadeValue x t × CapturesOk program host settled is_host ground closure

  -- a closure
  pub fun_read_placed : (closure : ClosureNotes) (code : ClosureCode) (result : Ty)
      (context : Context) (listed : List ℕ) → closure.at ≡ code.at → IsSeenFrom host context
      → AreNoted program (fun_notes program.tables.world program.tables.answers
      (closure_layer program.tables.world program.tables.answers closure) context listed)
      → Contains program.inside (closure_body program.tables host.owner code result)
      → (s : Making) → PlacesAt program host s (fun_read program.tables host.owner code)
      (MadeClosure code.at)
  fun_read_placed closure code result context listed same seen noted has s =
      places_then s (captured program.tables host.owner code.at code.at)
      (λ xs. number (plain code.at)
      >>= λ f. typed program.tables code.at
      >>= λ ty. give code.at ty (λ r. instr.NewClosure code.at r f xs))
      (AreCaptures program host settled is_host ground captures) (MadeClosure code.at)
      (captured_placed program host settled is_host ground code.at code.at s)
      (λ xs u later are.
      places_number_then u (plain code.at)
      (λ f. typed program.tables code.at
      >>= λ ty. give code.at ty (λ r. instr.NewClosure code.at r f xs)) (MadeClosure code.at)
      (λ f found.
      places_typed_then program.tables u code.at
      (λ ty. give code.at ty (λ r. instr.NewClosure code.at r f xs)) (MadeClosure code.at)
      (λ ty is.
      places_weaker u (give code.at ty (λ r. instr.NewClosure code.at r f xs)) MadeValue
      (MadeClosure code.at)
      (give_made code.at ty (λ r. instr.NewClosure code.at r f xs) u (λ r. refl)
      (λ r t after new. closure_ok f r ty xs t found is
      (captures_stay program host settled is_host ground captures xs u t after are) new.kind_is)
      (λ r next. next_apart xs _ r
      (captures_below program host settled is_host ground captures xs u are) next))
      (λ x t after made. (
        made,
        captures_ok program host settled is_host ground code.at xs u are,
      ))))) where
        captures : List Capture
        captures = program.tables.isolation.captures_of code.at

        body : IsNoted program code.at (fun_iso code.at) false
        body = fun_noted closure code.at context listed same seen noted

        closure_ok : (f r : ℕ) (ty : Ty) (xs : List Operand) (t : Making)
            → program.numbers (plain code.at) ≡ Some f
            → program.tables.answers.type_at code.at ≡ Some ty
            → AreCaptures program host settled is_host ground captures xs t
            → RegisterHasType t.made.regs r ty → ClosureOk program host t.made.regs r f xs
        closure_ok f r ty xs t found is are gives = record {
          owner = host.owner;
          closure = code;
          result = result;
          ty = ty;
          has = has;
          numbered = found;
          noted = body;
          held = body_holds code result (fun_iso code.at) false xs t has body (fun_own code.at) are;
          typed = is;
          gives = gives;
          crosses = λ shares marked.
              captures_cross program host settled is_host ground shares code.at xs t are
              (ap marked_type is ∙ marked);
        }

  -- a task
  pub spawn_read_placed : (at : ℕ) (detached : Bool) (closure : ClosureNotes) (code : ClosureCode)
      (context : Context) (listed : List ℕ) → closure.at ≡ code.at → IsSeenFrom host context
      → AreNoted program (task_notes program.tables.world program.tables.answers at detached
      (closure_layer program.tables.world program.tables.answers closure) context listed)
      → Contains program.inside (task_body program.tables host.owner code
      (spawn_result program.tables host.owner at))
      → (s : Making) → PlacesAt program host s (spawn_read program.tables host.owner at code)
      (MadeClosure code.at)
  spawn_read_placed at detached closure code context listed same seen noted has s =
      places_then s (captured program.tables host.owner at code.at)
      (λ xs. number (plain code.at)
      >>= λ f. typed program.tables at
      >>= λ ty. give at ty (λ r. instr.NewTask at r f xs))
      (AreCaptures program host settled is_host ground captures) (MadeClosure code.at)
      (captured_placed program host settled is_host ground at code.at s)
      (λ xs u later are.
      places_number_then u (plain code.at)
      (λ f. typed program.tables at >>= λ ty. give at ty (λ r. instr.NewTask at r f xs))
      (MadeClosure code.at)
      (λ f found.
      places_typed_then program.tables u at
      (λ ty. give at ty (λ r. instr.NewTask at r f xs)) (MadeClosure code.at)
      (λ ty is.
      places_weaker u (give at ty (λ r. instr.NewTask at r f xs)) MadeValue
      (MadeClosure code.at)
      (give_made at ty (λ r. instr.NewTask at r f xs) u (λ r. refl)
      (λ r t after new. task_ok f xs t found
      (captures_stay program host settled is_host ground captures xs u t after are))
      (λ r next. tt))
      (λ x t after made. (
        made,
        captures_ok program host settled is_host ground code.at xs u are,
      ))))) where
        captures : List Capture
        captures = program.tables.isolation.captures_of code.at

        one : Iso
        one = spawn_iso closure.mark detached

        bare : ClosureCode
        bare = record code { params = [] }

        body : IsNoted program code.at one true
        body = spawn_noted at detached closure code.at context listed same seen noted

        task_ok : (f : ℕ) (xs : List Operand) (t : Making)
            → program.numbers (plain code.at) ≡ Some f
            → AreCaptures program host settled is_host ground captures xs t
            → TaskOk program host t.made.regs f xs
        task_ok f xs t found are = record {
          owner = host.owner;
          closure = code;
          result = spawn_result program.tables host.owner at;
          iso = one;
          has = has;
          numbered = found;
          noted = body;
          apart = spawn_apart closure.mark detached;
          within = λ is. spawn_own closure.mark detached (ap is_own is);
          held = body_holds bare (spawn_result program.tables host.owner at) one true xs t has body
              (spawn_own closure.mark detached) are;
          crosses = λ shares. task_crosses shares at detached closure context listed noted;
        }
