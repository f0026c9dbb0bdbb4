-- Each call that stands in a tree has a kind among its notes.
use Rattle.std.proofs.Common.{◌≡◌, ℕ, Bool, true, false, not, ◌&&◌, cond, List, [], ◌∷◌, ◌++◌, map}
use Rattle.std.proofs.Common.{Option, Some, None, option_map, unwrap_or, Contains, ap, sym, subst}
use Rattle.std.proofs.Common.{refl, ◌∙◌, arith}
use Rattle.std.proofs.lemmas.List.Concat.{flat_map-append}
use Rattle.std.proofs.lemmas.List.Elements.{Contains-append_left, Contains-append_right}
use Rattle.std.specs.List.{AllByRecursion, filter}
use Rattle.sw_tree.proofs.FoldEquations as eq
use Rattle.sw_tree.proofs.TreeInduction.{Claims, Cases, Given, every_expr, every_block}
use Rattle.sw_tree.specs.Folds.{Steps, fold_expr, fold_stmt, fold_arg, fold_closure, fold_link}
use Rattle.sw_tree.specs.Folds.{fold_block, fold_case_arm, fold_if_arm}
use Rattle.sw_tree.specs.NodeKey.{last_or}
use Rattle.sw_tree.specs.declared.expr.Expr.{Expr}
use Rattle.sw_tree.specs.declared.expr.Expr.TheOpen as layer
use Rattle.sw_tree.specs.declared.expr.Link.{Link}
use Rattle.sw_tree.specs.declared.name.Name.{Name}
use Rattle.sw_tree.specs.declared.operator.AssignOp.{AssignOp}
use Rattle.sw_tree.specs.declared.operator.AssignOp.TheVariants as assigns
use Rattle.sw_tree.specs.declared.stmt.Block.{Block}
use Rattle.sw_typing_rules.specs.Worlds.{World}
use Rattle.sw_isolation_rules.specs.Answers.{Answers}
use Rattle.sw_isolation_rules.specs.CallKeys.{Keys, Calls, Calling, Operating, Closing, call_keys}
use Rattle.sw_isolation_rules.specs.CallKeys.{calling, joined, no_calls, place_calls}
use Rattle.sw_isolation_rules.specs.CallKeys.{HasNotedKind, HaveNotedKinds, call_steps, expr_calls}
use Rattle.sw_isolation_rules.specs.CallKeys.{block_calls, member_calls, word_calls}
use Rattle.sw_isolation_rules.specs.Captures.{closed, is_mention, captured, taken, own_mentions}
use Rattle.sw_isolation_rules.specs.Captures.{list_mentions}
use Rattle.sw_isolation_rules.specs.Kinds.{accessor, is_outside, kind_of}
use Rattle.sw_isolation_rules.specs.Lists.{kind_in, kinds_in}
use Rattle.sw_isolation_rules.specs.Noting.{Notes, Seen, NotedClosure, Linked, no_notes, all_of}
use Rattle.sw_isolation_rules.specs.Noting.{closure_iso, in_closure, note_steps, place_notes, race_if, task_iso}
use Rattle.sw_isolation_rules.specs.Noting.{call_notes, value}
use Rattle.sw_isolation_rules.specs.Noting.{see, block_notes, use_notes, in_await, word_notes}
use Rattle.sw_isolation_rules.specs.Noting.{member_notes, task_races, with_list}
use Rattle.sw_isolation_rules.specs.Uses.{used, base_of, no_base}
use Rattle.sw_isolation_rules.specs.declared.note.BodyIso.{BodyIso}
use Rattle.sw_isolation_rules.specs.declared.note.Kinded.{Kinded}
use Rattle.sw_isolation_rules.specs.declared.note.Note.{Note}
use Rattle.sw_isolation_rules.specs.declared.note.Note.TheVariants.{Body, Kind, Refused, Race, Var}
use Rattle.sw_isolation_rules.specs.declared.note.Note.TheVariants.{Mentioned, Captures}
use Rattle.sw_isolation_rules.specs.declared.uses.Context.{Context}
use Rattle.sw_isolation_rules.specs.declared.uses.Callee.{Callee}
use Rattle.sw_isolation_rules.specs.declared.uses.Storage.{Storage}
use Rattle.sw_isolation_rules.specs.declared.uses.Used.{Used}
use Rattle.sw_isolation_rules.specs.declared.uses.Used.TheVariants.{Called, Stored, Field, Waited}
use Rattle.sw_isolation_rules.specs.declared.uses.Used.TheVariants.{Nothing}
use Rattle.sw_isolation_rules.proofs.Each.{each_join}

left_has : (one other : List Note) (key : ℕ) → HasNotedKind one key
    → HasNotedKind (one ++ other) key
left_has one other key (kinded, (has, is)) = (
  kinded,
  (
    subst (λ list. Contains list kinded) (sym (flat_map-append kind_in one other))
        (Contains-append_left (kinds_in one) (kinds_in other) kinded has),
    is,
  ),
)

right_has : (one other : List Note) (key : ℕ) → HasNotedKind other key
    → HasNotedKind (one ++ other) key
right_has one other key (kinded, (has, is)) = (
  kinded,
  (
    subst (λ list. Contains list kinded) (sym (flat_map-append kind_in one other))
        (Contains-append_right (kinds_in one) (kinds_in other) kinded has),
    is,
  ),
)

all_left : (one other : List Note) (keys : Keys) → HaveNotedKinds one keys
    → HaveNotedKinds (one ++ other) keys
all_left one other [] have = tt
all_left one other (key ∷ keys) have =
    (left_has one other key have.0, all_left one other keys have.1)

all_right : (one other : List Note) (keys : Keys) → HaveNotedKinds other keys
    → HaveNotedKinds (one ++ other) keys
all_right one other [] have = tt
all_right one other (key ∷ keys) have =
    (right_has one other key have.0, all_right one other keys have.1)

record Has (notes : List Note) (keys : Keys) : Type 0 where
  all : HaveNotedKinds notes keys

none : (notes : List Note) → Has notes []
none notes = record { all = tt }

left : (one other : List Note) (keys : Keys) → Has one keys → Has (one ++ other) keys
left one other keys have = record { all = all_left one other keys have.all }

right : (one other : List Note) (keys : Keys) → Has other keys → Has (one ++ other) keys
right one other keys have = record { all = all_right one other keys have.all }

both : (one other : List Note) (keys more : Keys) → Has one keys → Has other more
    → Has (one ++ other) (keys ++ more)
both one other keys more first second = record {
  all = each_join (HasNotedKind (one ++ other)) keys more (all_left one other keys first.all)
      (all_right one other more second.all);
}

kept_kinds : (notes : List Note)
    → kinds_in (filter (λ note. not (is_mention note)) notes) ≡ kinds_in notes
kept_kinds [] = refl
kept_kinds (Body body ∷ notes) = kept_kinds notes
kept_kinds (Kind kinded ∷ notes) = ap (λ more. kinded ∷ more) (kept_kinds notes)
kept_kinds (Refused one ∷ notes) = kept_kinds notes
kept_kinds (Race one ∷ notes) = kept_kinds notes
kept_kinds (Var key ∷ notes) = kept_kinds notes
kept_kinds (Mentioned one ∷ notes) = kept_kinds notes
kept_kinds (Captures held ∷ notes) = kept_kinds notes

all_kept : (inner : List Note) (keys : Keys) → HaveNotedKinds inner keys
    → HaveNotedKinds (filter (λ note. not (is_mention note)) inner) keys
all_kept inner [] have = tt
all_kept inner (key ∷ keys) have = (
  subst (λ list. (kinded : Kinded) × (Contains list kinded × (kinded.at ≡ key)))
      (sym (kept_kinds inner)) have.0,
  all_kept inner keys have.1,
)

closed_has : (world : World) (context : Context) (closure : ℕ) (listed : List ℕ)
    (inner : List Note) (keys : Keys) → Has inner keys
    → Has (closed world context closure listed inner) keys
closed_has world context closure listed inner keys have =
    left
    (filter (λ note. not (is_mention note)) inner
    ++ map (captured closure listed) (taken world context closure inner))
    (map Mentioned (own_mentions closure inner)) keys
    (left (filter (λ note. not (is_mention note)) inner)
    (map (captured closure listed) (taken world context closure inner)) keys
    (record { all = all_kept inner keys have.all }))

after_body : (body : BodyIso) (notes : List Note) (keys : Keys) → Has notes keys
    → Has (Body body ∷ notes) keys
after_body body notes keys have = record { all = go keys have.all } where
  go : (more : Keys) → HaveNotedKinds notes more → HaveNotedKinds (Body body ∷ notes) more
  go [] all = tt
  go (key ∷ more) all = (all.0, go more all.1)

call_has : (context : Context) (at : ℕ) (callee : Callee) (sends : Bool)
    → Has (call_notes context at callee sends) (at ∷ [])
call_has context at callee sends = record {
  all = (
    (
      record { at = at; kind = kind_of callee context.iso },
      ((0, (omega arith), refl), refl),
    ),
    tt,
  );
}

read_has : (context : Context) (at : ℕ) (storage : Storage)
    → Has (use_notes context at (Stored storage)) (call_keys context at (Stored storage))
read_has context at storage = by (is_outside context storage) storage.mutable where
  by : (outside mutable : Bool)
      → Has (cond outside
      (cond mutable (call_notes context at (accessor storage) storage.may_cross)
      (race_if (not storage.may_cross) at 606)) [])
      (cond (outside && mutable) (at ∷ []) [])
  by true true = call_has context at (accessor storage) storage.may_cross
  by true false = none _
  by false mutable = none _

use_has : (context : Context) (at : ℕ) (used : Used)
    → Has (use_notes context at used) (call_keys context at used)
use_has context at (Called callee sends) = call_has context at callee sends
use_has context at (Stored storage) = read_has context at storage
use_has context at Field = none _
use_has context at Waited = none _
use_has context at Nothing = none _

module _ (world : World) (answers : Answers) where
  abbrev noting : Steps
  noting = note_steps world answers

  abbrev counting : Steps
  counting = call_steps world answers

  abbrev Have : Notes → Calls → Type 0
  Have notes calls = (context : Context) (listed : List ℕ)
      → Has (notes context listed) (calls context)

  record Match (seen : Seen) (calling : Calling) : Type 0 where
    key : seen.key ≡ calling.key
    is_self : seen.is_self ≡ calling.is_self
    notes : Have seen.notes calling.calls
    before : Have seen.before calling.before

  record MatchWithin (within : NotedClosure) (closing : Closing) : Type 0 where
    at : within.at ≡ closing.at
    mark : within.mark ≡ closing.mark
    inside : Have within.inside closing.calls

  record MatchLink (linked : Linked) (operating : Operating) : Type 0 where
    at : linked.at ≡ operating.at
    operand : Have linked.operand operating.calls

  abbrev claims : Claims
  claims = record {
    expr = λ x. Match (fold_expr noting x) (fold_expr counting x);
    stmt = λ x. Have (fold_stmt noting x) (fold_stmt counting x);
    arg = λ x. Have (fold_arg noting x) (fold_arg counting x);
    closure = λ x. MatchWithin (fold_closure noting x) (fold_closure counting x);
    link = λ x. MatchLink (fold_link noting x) (fold_link counting x);
    block = λ x. Have (fold_block noting x) (fold_block counting x);
    case_arm = λ x. Have (fold_case_arm noting x) (fold_case_arm counting x);
    if_arm = λ x. Have (fold_if_arm noting x) (fold_if_arm counting x);
  }

  many : {X : Type 0} (f : X → Notes) (g : X → Calls) (xs : List X)
      → AllByRecursion (λ x. Have (f x) (g x)) xs → Have (all_of (map f xs)) (joined (map g xs))
  many f g [] all context listed = none _
  many f g (x ∷ xs) all context listed =
      both (f x context listed) (all_of (map f xs) context listed) (g x context)
      (joined (map g xs) context) (all.0 context listed) (many f g xs all.1 context listed)

  operands : (links : List Link) → AllByRecursion claims.link links
      → Have (all_of (map (λ (link : Linked). link.operand) (map (fold_link noting) links)))
      (joined (map (λ (link : Operating). link.calls) (map (fold_link counting) links)))
  operands [] all context listed = none _
  operands (link ∷ links) all context listed =
      both _ _ ((fold_link counting link).calls context) _ (all.0.operand context listed)
      (operands links all.1 context listed)

  places : (links : List Link) → AllByRecursion claims.link links
      → map (λ (link : Linked). link.at) (map (fold_link noting) links)
      ≡ map (λ (link : Operating). link.at) (map (fold_link counting) links)
  places [] all = refl
  places (link ∷ links) all =
      ap (λ at. at ∷ map (λ (link : Linked). link.at) (map (fold_link noting) links)) all.0.at
      ∙ ap (λ more. (fold_link counting link).at ∷ more) (places links all.1)

  otherwise_has : (otherwise : Option Block) → Given claims.block otherwise
      → Have (unwrap_or (option_map (fold_block noting) otherwise) no_notes)
      (unwrap_or (option_map (fold_block counting) otherwise) no_calls)
  otherwise_has None have = λ context listed. none _
  otherwise_has (Some block) have = have

  returned_has : (at : ℕ) (given : Option Expr) → Given claims.expr given
      → Have (noting.stmt (layer.Return at (option_map (fold_expr noting) given)))
      (counting.stmt (layer.Return at (option_map (fold_expr counting) given)))
  returned_has at None have = λ context listed. none _
  returned_has at (Some given) have = have.notes

  word_has : (at : ℕ) (context : Context)
      → Has (word_notes world answers context at) (word_calls world answers at context)
  word_has at context =
      right _ (use_notes context at (used world answers context.owner no_base at)) _
      (use_has context at (used world answers context.owner no_base at))

  member_has : (seen : Seen) (calling : Calling) → Match seen calling → (at : ℕ)
      (context : Context)
      → Has (member_notes world answers seen at context)
      (member_calls world answers calling at context)
  member_has seen calling match at context =
      subst (λ one. Has (member_notes world answers seen at context) (call_keys context at one))
      (ap (λ key. used world answers context.owner (base_of answers key seen.is_self) at) match.key
      ∙ ap (λ is. used world answers context.owner (base_of answers calling.key is) at)
      match.is_self)
      (use_has context at
      (used world answers context.owner (base_of answers seen.key seen.is_self) at))

  place_has : (op : AssignOp) (seen : Seen) (calling : Calling) → Match seen calling
      → Have (place_notes world answers op seen) (place_calls world answers op calling)
  place_has assigns.Set seen calling match context listed =
      left _ _ _ (match.before context listed)
  place_has assigns.Add seen calling match context listed =
      left _ _ _ (match.notes context listed)
  place_has assigns.Subtract seen calling match context listed =
      left _ _ _ (match.notes context listed)
  place_has assigns.Multiply seen calling match context listed =
      left _ _ _ (match.notes context listed)
  place_has assigns.Divide seen calling match context listed =
      left _ _ _ (match.notes context listed)
  place_has assigns.Remainder seen calling match context listed =
      left _ _ _ (match.notes context listed)

  -- an expression that is no place
  value_has : (at other : ℕ) (notes : Notes) (calls : Calls) → at ≡ other → Have notes calls
      → Match (value at notes) (calling other calls)
  value_has at other notes calls is have = record {
    key = is;
    is_self = refl;
    notes = have;
    before = λ context listed. none _;
  }

  -- the body of a closure, and of a task
  fun_has : (within : NotedClosure) (closing : Closing) → MatchWithin within closing
      → (context : Context) (listed : List ℕ)
      → Has (within.inside (in_closure context (closure_iso answers within.at context.iso) false)
      listed)
      (closing.calls (in_closure context (closure_iso answers closing.at context.iso) false))
  fun_has within closing match context listed =
      subst (λ at. Has
      (within.inside (in_closure context (closure_iso answers within.at context.iso) false) listed)
      (closing.calls (in_closure context (closure_iso answers at context.iso) false))) match.at
      (match.inside _ listed)

  task_has : (within : NotedClosure) (closing : Closing) → MatchWithin within closing
      → (detached : Bool) (context : Context) (listed : List ℕ)
      → Has (within.inside
      (in_closure context (task_iso world within.mark detached context.iso) true) listed)
      (closing.calls (in_closure context (task_iso world closing.mark detached context.iso) true))
  task_has within closing match detached context listed =
      subst (λ (mark : Option Name). Has
      (within.inside (in_closure context (task_iso world within.mark detached context.iso) true)
      listed)
      (closing.calls (in_closure context (task_iso world mark detached context.iso) true)))
      match.mark (match.inside _ listed)

  -- by the equations of both functions at a form
  at_form : {X Y : Type 0} (R : X → Y → Type 0) {x x' : X} {y y' : Y} → x ≡ x' → y ≡ y' → R x' y'
      → R x y
  at_form R {x} {x'} {y} {y'} one other holds =
      subst (λ z. R z y) (sym one) (subst (λ z. R x' z) (sym other) holds)

  cases : Cases claims
  cases = record {
    int = λ at value.
        at_form Match (eq.fold_expr-Int noting at value) (eq.fold_expr-Int counting at value)
        (value_has at at _ _ refl (λ context listed. none _));
    bool = λ at value.
        at_form Match (eq.fold_expr-Bool noting at value) (eq.fold_expr-Bool counting at value)
        (value_has at at _ _ refl (λ context listed. none _));
    use_of = λ name.
        at_form Match (eq.fold_expr-Use noting name)
        (eq.fold_expr-Use counting name)
        (record {
          key = refl;
          is_self = refl;
          notes = λ context listed. word_has name.at context;
          before = λ context listed. none _;
        });
    me = λ at.
        at_form Match (eq.fold_expr-Me noting at)
        (eq.fold_expr-Me counting at)
        (record {
          key = refl;
          is_self = refl;
          notes = λ context listed. none _;
          before = λ context listed. none _;
        });
    member = λ base name of_base.
        at_form Match (eq.fold_expr-Member noting base name)
        (eq.fold_expr-Member counting base name)
        (record {
          key = refl;
          is_self = refl;
          notes = λ context listed.
              both _ _ ((fold_expr counting base).calls context) _ (of_base.notes context listed)
              (member_has (fold_expr noting base) (fold_expr counting base) of_base name.at
              context);
          before = of_base.notes;
        });
    call = λ name args all.
        at_form Match (eq.fold_expr-Call noting name args) (eq.fold_expr-Call counting name args)
        (value_has name.at name.at _ _ refl (λ context listed.
        both _ _ (word_calls world answers name.at context) _ (word_has name.at context)
        (many (fold_arg noting) (fold_arg counting) args all context listed)));
    method = λ base name args of_base all.
        at_form Match (eq.fold_expr-Method noting base name args)
        (eq.fold_expr-Method counting base name args)
        (value_has name.at name.at _ _ refl (λ context listed.
        both _ _ _ _
        (both _ _ ((fold_expr counting base).calls context) _ (of_base.notes context listed)
        (member_has (fold_expr noting base) (fold_expr counting base) of_base name.at context))
        (many (fold_arg noting) (fold_arg counting) args all context listed)));
    chain = λ first rest of_first all.
        at_form Match (eq.fold_expr-Chain noting first rest)
        (eq.fold_expr-Chain counting first rest)
        (value_has _ _ _ _
        (ap (λ keys. last_or (fold_expr noting first).key keys) (places rest all)
        ∙ ap (λ key. last_or key
        (map (λ (link : Operating). link.at) (map (fold_link counting) rest))) of_first.key)
        (λ context listed.
        both _ _ ((fold_expr counting first).calls context) _ (of_first.notes context listed)
        (operands rest all context listed)));
    prefix = λ op at inner of_inner.
        at_form Match (eq.fold_expr-Prefix noting op at inner)
        (eq.fold_expr-Prefix counting op at inner) (value_has at at _ _ refl of_inner.notes);
    await = λ at inner of_inner.
        at_form Match (eq.fold_expr-Await noting at inner)
        (eq.fold_expr-Await counting at inner)
        (value_has at at _ _ refl (λ context listed.
        of_inner.notes (in_await context) listed));
    fun = λ closure within.
        at_form Match (eq.fold_expr-Fun noting closure) (eq.fold_expr-Fun counting closure)
        (value_has _ _ _ _ within.at (λ context listed.
        after_body _ _ _
        (fun_has (fold_closure noting closure) (fold_closure counting closure) within context
        listed)));
    spawn = λ at detached body within.
        at_form Match (eq.fold_expr-Spawn noting at detached body)
        (eq.fold_expr-Spawn counting at detached body)
        (value_has at at _ _ refl (λ context listed.
        after_body _ _ _
        (right (task_races world answers at) _ _
        (task_has (fold_closure noting body) (fold_closure counting body) within detached context
        listed))));
    yield = λ at.
        at_form Match (eq.fold_expr-Yield noting at) (eq.fold_expr-Yield counting at)
        (value_has at at _ _ refl (λ context listed. none _));
    bind = λ mutable name ty value of_value.
        at_form Have (eq.fold_stmt-Bind noting mutable name ty value)
        (eq.fold_stmt-Bind counting mutable name ty value)
        (λ context listed. right _ _ _ (of_value.notes context listed));
    assign = λ at op place value of_place of_value.
        at_form Have (eq.fold_stmt-Assign noting at op place value)
        (eq.fold_stmt-Assign counting at op place value)
        (λ context listed.
        both _ _ _ _
        (place_has op (fold_expr noting place) (fold_expr counting place) of_place context listed)
        (of_value.notes context listed));
    discard = λ at value of_value.
        at_form Have (eq.fold_stmt-Discard noting at value)
        (eq.fold_stmt-Discard counting at value)
        of_value.notes;
    if_of = λ arms otherwise all last.
        at_form Have (eq.fold_stmt-If noting arms otherwise)
        (eq.fold_stmt-If counting arms otherwise)
        (λ context listed.
        both _ _ _ _
        (many (fold_if_arm noting) (fold_if_arm counting) arms all context listed)
        (otherwise_has otherwise last context listed));
    while_of = λ at cond body of_cond of_body.
        at_form Have (eq.fold_stmt-While noting at cond body)
        (eq.fold_stmt-While counting at cond body)
        (λ context listed.
        both _ _ ((fold_expr counting cond).calls context) _ (of_cond.notes context listed)
        (of_body context listed));
    switch = λ at subject arms otherwise of_subject all last.
        at_form Have (eq.fold_stmt-Switch noting at subject arms otherwise)
        (eq.fold_stmt-Switch counting at subject arms otherwise)
        (λ context listed.
        both _ _ _ _
        (both _ _ ((fold_expr counting subject).calls context) _ (of_subject.notes context listed)
        (many (fold_case_arm noting) (fold_case_arm counting) arms all context listed))
        (otherwise_has otherwise last context listed));
    return_of = λ at value given.
        at_form Have (eq.fold_stmt-Return noting at value)
        (eq.fold_stmt-Return counting at value)
        (returned_has at value given);
    break_of = λ at.
        at_form Have (eq.fold_stmt-Break noting at)
        (eq.fold_stmt-Break counting at)
        (λ context listed. none _);
    continue_of = λ at.
        at_form Have (eq.fold_stmt-Continue noting at)
        (eq.fold_stmt-Continue counting at)
        (λ context listed. none _);
    plain = λ value of_value.
        at_form Have (eq.fold_stmt-Plain noting value)
        (eq.fold_stmt-Plain counting value)
        of_value.notes;
    arg = λ label value of_value.
        at_form Have (eq.fold_arg-roll noting label value)
        (eq.fold_arg-roll counting label value)
        of_value.notes;
    closure = λ at mark captures params result body of_body.
        at_form MatchWithin (eq.fold_closure-roll noting at mark captures params result body)
        (eq.fold_closure-roll counting at mark captures params result body)
        (record {
          at = refl;
          mark = refl;
          inside = λ context listed.
              closed_has world context at (with_list world answers context listed captures) _ _
              (right (map Mentioned (list_mentions world answers context.owner captures)) _ _
              (of_body context (with_list world answers context listed captures)));
        });
    link = λ op at operand of_operand.
        at_form MatchLink (eq.fold_link-roll noting op at operand)
        (eq.fold_link-roll counting op at operand)
        (record { at = refl; operand = of_operand.notes });
    block = λ stmts all.
        at_form Have (eq.fold_block-roll noting stmts)
        (eq.fold_block-roll counting stmts)
        (many (fold_stmt noting) (fold_stmt counting) stmts all);
    case_arm = λ name patterns body of_body.
        at_form Have (eq.fold_case_arm-roll noting name patterns body)
        (eq.fold_case_arm-roll counting name patterns body)
        of_body;
    if_arm = λ at cond body of_cond of_body.
        at_form Have (eq.fold_if_arm-roll noting at cond body)
        (eq.fold_if_arm-roll counting at cond body)
        (λ context listed.
        both _ _ ((fold_expr counting cond).calls context) _ (of_cond.notes context listed)
        (of_body context listed));
  }

  pub expr_has_kinds : (context : Context) (listed : List ℕ) (e : Expr)
      → HaveNotedKinds ((see world answers e).notes context listed)
      (expr_calls world answers e context)
  unfolding see expr_calls
  expr_has_kinds context listed e = ((every_expr claims cases e).notes context listed).all

  pub block_has_kinds : (context : Context) (listed : List ℕ) (block : Block)
      → HaveNotedKinds (block_notes world answers block context listed)
      (block_calls world answers block context)
  unfolding block_notes block_calls
  block_has_kinds context listed block = (every_block claims cases block context listed).all
