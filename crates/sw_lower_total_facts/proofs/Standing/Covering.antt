-- What is noted of a tree is noted of its own keys alone.
use Rattle.std.proofs.Common.{◌≡◌, ℕ, Bool, true, false, List, [], map, Option, Some, None, not}
use Rattle.std.proofs.Common.{arith}
use Rattle.sw_tree.specs.Folds.{Steps, fold_arg, fold_case_arm, fold_if_arm, fold_link}
use Rattle.sw_tree.specs.Keys.{Keys, arg_keys, block_keys, case_arm_keys, expr_keys, if_arm_keys}
use Rattle.sw_tree.specs.Keys.{link_keys, stmt_keys}
use Rattle.sw_tree.specs.declared.expr.Arg.{Arg}
use Rattle.sw_tree.specs.declared.expr.Expr.{Expr}
use Rattle.sw_tree.specs.declared.expr.Link.{Link}
use Rattle.sw_tree.specs.declared.name.Name.{Name}
use Rattle.sw_tree.specs.declared.operator.AssignOp.{AssignOp}
use Rattle.sw_tree.specs.declared.stmt.Block.{Block}
use Rattle.sw_tree.specs.declared.stmt.CaseArm.{CaseArm}
use Rattle.sw_tree.specs.declared.stmt.IfArm.{IfArm}
use Rattle.sw_tree.specs.declared.stmt.Stmt.{Stmt}
use Rattle.sw_tree.proofs.Counting.{Weight, count, hits}
use Rattle.sw_types.specs.Sendable.{is_sendable}
use Rattle.sw_types.specs.declared.ty.Ty.{Ty}
use Rattle.sw_typing_rules.specs.Worlds.{World}
use Rattle.sw_isolation_rules.specs.Answers.{Answers}
use Rattle.sw_isolation_rules.specs.Captures.{closed, list_mentions}
use Rattle.sw_isolation_rules.specs.Noting.{Notes, Seen, block_notes, inner_notes, member_notes}
use Rattle.sw_isolation_rules.specs.Noting.{note_steps, place_notes, result_races, see, stmt_notes}
use Rattle.sw_isolation_rules.specs.Noting.{task_races, task_result, used_at, var_notes, with_list}
use Rattle.sw_isolation_rules.specs.Noting.{word_notes}
use Rattle.sw_isolation_rules.specs.declared.note.Note.{Note}
use Rattle.sw_isolation_rules.specs.declared.note.Note.TheVariants.{Mentioned}
use Rattle.sw_isolation_rules.specs.declared.uses.Context.{Context}
use Rattle.sw_isolation_facts.specs.NotedByKeys.{NotedByKeys}
use Rattle.sw_isolation_facts.proofs.NotedTrees.{arg_goes, block_goes, case_arm_goes, expr_goes}
use Rattle.sw_isolation_facts.proofs.NotedTrees.{if_arm_goes, link_goes, member_goes, place_goes}
use Rattle.sw_isolation_facts.proofs.NotedTrees.{stmt_goes, word_goes}
use Rattle.sw_lower_total_facts.proofs.Standing.Closing.{alike_closed}
use Rattle.sw_lower_total_facts.proofs.Standing.Noting.{AreBare, Lacks, alike_body, bare_await}
use Rattle.sw_lower_total_facts.proofs.Standing.Noting.{bare_lacks, bare_mentions, bare_nothing}
use Rattle.sw_lower_total_facts.proofs.Standing.Noting.{bare_race, bare_store, lacks_alike, lacks_join}
use Rattle.sw_lower_total_facts.proofs.Standing.Noting.{lacks_nothing, lacks_use, lacks_var}

-- Notes are of these keys alone.
abbrev pub Covers : List Note → Keys → Type 0
Covers notes keys = (key : ℕ) → count keys key ≡ 0 → Lacks notes key

abbrev pub NotesCover : Notes → Keys → Type 0
NotesCover notes keys = (context : Context) (listed : List ℕ) → Covers (notes context listed) keys

module _ (world : World) (answers : Answers) where
  abbrev steps : Steps
  steps = note_steps world answers

  bare_result : (at : ℕ) (result : Option Ty) → AreBare (result_races world at result)
  bare_result at None = bare_nothing
  bare_result at (Some ty) = bare_race (not (is_sendable world.shapes ty)) at 605

  pub bare_task : (at : ℕ) → AreBare (task_races world answers at)
  unfolding task_races
  bare_task at = bare_result at (task_result (answers.type_at at))

  pub var_covers : (mutable : Bool) (at key : ℕ) → hits at key ≡ 0
      → Lacks (var_notes mutable at) key
  var_covers true at key other = lacks_var at key other
  var_covers false at key other = lacks_nothing key

  abbrev OfKeys : List Note → Weight → Type 0
  OfKeys notes keys = (key : ℕ) → keys key ≡ 0 → Lacks notes key

  -- inside a closure
  closed_covers : (at : ℕ) (captures : List Name) (body : Notes) (keys : Weight)
      (context : Context) (listed : List ℕ)
      → OfKeys (body context (with_list world answers context listed captures)) keys → (key : ℕ)
      → hits at key ≡ 0 → keys key ≡ 0
      → Lacks (closed world context at (with_list world answers context listed captures)
      (inner_notes world answers captures body context listed)) key
  closed_covers at captures body keys context listed of_body key other none =
      lacks_alike key _ _
      (alike_closed world context at (with_list world answers context listed captures)
      (inner_notes world answers captures body context listed) key other)
      (lacks_join (map Mentioned (list_mentions world answers context.owner captures)) _ key
      (bare_lacks _ key (bare_mentions (list_mentions world answers context.owner captures)))
      (of_body key none))

  noted : NotedByKeys world answers
  noted = record {
    Fits = λ context keys. Unit {0};
    Has = λ notes keys. OfKeys notes keys;
    Stored = λ notes. AreBare notes;
    fewer = λ context some all within fits. tt;
    awaited = λ context keys fits. tt;
    more = λ notes some all within lacks key none. lacks key (omega (arith, within key, none));
    nothing = λ keys key none. lacks_nothing key;
    join = λ one other some more all within first second key none.
        lacks_join one other key (first key (omega (arith, within key, none)))
        (second key (omega (arith, within key, none)));
    mentions = λ these key none. bare_lacks _ key (bare_mentions these);
    used = λ context base at key other.
        lacks_use context at (used_at world answers context base at) key other;
    stored_nothing = bare_nothing;
    stored = λ context base at place inside bare.
        bare_store context place (used_at world answers context base at) inside bare;
    of_stored = λ notes bare key none. bare_lacks notes key bare;
    variable = var_covers;
    awaits = λ context at key none. bare_lacks _ key (bare_await context at true);
    fun = λ at mark captures body keys go context listed fits key none.
        lacks_alike key _ _ (alike_body key _ _)
        (closed_covers at captures body keys _ listed (go _ _ tt) key (omega (arith, none))
        (omega (arith, none)));
    task = λ place detached at mark captures body keys go context listed fits key none.
        lacks_alike key _ _ (alike_body key _ _)
        (lacks_join (task_races world answers place) _ key (bare_lacks _ key (bare_task place))
        (closed_covers at captures body keys _ listed (go _ _ tt) key (omega (arith, none))
        (omega (arith, none))));
  }

  pub word_covers : (at : ℕ) (context : Context) (key : ℕ) → hits at key ≡ 0
      → Lacks (word_notes world answers context at) key
  unfolding noted
  word_covers at context = word_goes world answers noted at context [] tt

  pub member_covers : (base : Seen) (at : ℕ) (context : Context) (key : ℕ) → hits at key ≡ 0
      → Lacks (member_notes world answers base at context) key
  unfolding noted
  member_covers base at context = member_goes world answers noted base at context [] tt

  pub expr_covers : (e : Expr) → NotesCover (see world answers e).notes (expr_keys e)
  unfolding noted
  expr_covers e context listed = (expr_goes world answers noted e).notes context listed tt

  -- an assignment to a place
  pub stores_bare : (place : Expr) (context : Context) (at : ℕ)
      → AreBare ((see world answers place).stores context at)
  unfolding noted
  stores_bare place = (expr_goes world answers noted place).stores

  pub place_covers : (op : AssignOp) (place : Expr)
      → NotesCover (place_notes world answers op (see world answers place)) (expr_keys place)
  unfolding noted
  place_covers op place context listed =
      place_goes world answers noted op (see world answers place) (count (expr_keys place))
      (expr_goes world answers noted place) context listed tt

  pub stmt_covers : (x : Stmt) → NotesCover (stmt_notes world answers x) (stmt_keys x)
  unfolding noted
  stmt_covers x context listed = stmt_goes world answers noted x context listed tt

  pub arg_covers : (x : Arg) → NotesCover (fold_arg steps x) (arg_keys x)
  unfolding noted
  arg_covers x context listed = arg_goes world answers noted x context listed tt

  pub link_covers : (x : Link) → NotesCover (fold_link steps x).operand (link_keys x)
  unfolding noted
  link_covers x context listed = link_goes world answers noted x context listed tt

  pub block_covers : (x : Block) → NotesCover (block_notes world answers x) (block_keys x)
  unfolding noted
  block_covers x context listed = block_goes world answers noted x context listed tt

  pub case_arm_covers : (x : CaseArm) → NotesCover (fold_case_arm steps x) (case_arm_keys x)
  unfolding noted
  case_arm_covers x context listed = case_arm_goes world answers noted x context listed tt

  pub if_arm_covers : (x : IfArm) → NotesCover (fold_if_arm steps x) (if_arm_keys x)
  unfolding noted
  if_arm_covers x context listed = if_arm_goes world answers noted x context listed tt
