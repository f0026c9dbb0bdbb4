-- The parts of expressions.
use Rattle.std.proofs.Common.{◌≡◌, ℕ, List, [], ◌∷◌, ◌++◌, map, Option, arith}
use Rattle.sw_tree.specs.Keys.{arg_keys, expr_keys, joined, link_keys}
use Rattle.sw_tree.specs.declared.expr.Arg.{Arg, roll-Arg}
use Rattle.sw_tree.specs.declared.expr.Expr.{Expr}
use Rattle.sw_tree.specs.declared.expr.Expr.TheVariants as exprs
use Rattle.sw_tree.specs.declared.expr.Link.{Link, roll-Link}
use Rattle.sw_tree.specs.declared.name.Name.{Name}
use Rattle.sw_tree.specs.declared.operator.InfixOp.{InfixOp}
use Rattle.sw_tree.specs.declared.operator.PrefixOp.{PrefixOp}
use Rattle.sw_tree.proofs.Counting.{count, hits, in_all-append, in_all-cons, in_all-nil}
use Rattle.sw_tree.proofs.KeyEquations as keys
use Rattle.sw_typing_rules.specs.Worlds.{World}
use Rattle.sw_isolation_rules.specs.Answers.{Answers}
use Rattle.sw_isolation_rules.specs.Noting.{in_await, member_notes, see, word_notes}
use Rattle.sw_isolation_rules.specs.declared.note.Note.{Note}
use Rattle.sw_isolation_rules.specs.declared.uses.Context.{Context}
use Rattle.sw_tree.specs.Scopes.{each, expr_scoped, using}
use Rattle.sw_lower_total_facts.proofs.Standing.Covering.{Covers, arg_covers, expr_covers}
use Rattle.sw_lower_total_facts.proofs.Standing.Covering.{link_covers, member_covers, word_covers}
use Rattle.sw_lower_total_facts.proofs.Standing.NoteForms as noted
use Rattle.sw_lower_total_facts.proofs.Standing.NoteForms.{args_notes, closure_inner, closure_noted}
use Rattle.sw_lower_total_facts.proofs.Standing.NoteForms.{expr_notes, fun_inside, links_notes, notes_in}
use Rattle.sw_lower_total_facts.proofs.Standing.NoteForms.{task_inside}
use Rattle.sw_lower_total_facts.proofs.Standing.Noting.{lacks_join, lacks_nothing}
use Rattle.sw_lower_total_facts.proofs.Standing.ScopeForms as placed
use Rattle.sw_lower_total_facts.proofs.Standing.ScopeForms.{arg_scoped, link_scoped}
use Rattle.sw_lower_total_facts.proofs.Standing.Scopes.{within_left, within_right, within_same}
use Rattle.sw_lower_total_facts.proofs.Standing.Parts.{IsPart, part_by, part_left, part_next, part_right}
use Rattle.sw_lower_total_facts.proofs.Standing.Parts.{part_same, part_then, share_keys, share_left}
use Rattle.sw_lower_total_facts.proofs.Standing.Parts.{share_right, share_then}

-- the key of a form alone
pub one_key : (at key : ℕ) → count (at ∷ []) key ≡ hits at key
one_key at key = omega (arith, in_all-cons hits at [] key, in_all-nil hits key)

module _ (world : World) (answers : Answers) (context : Context) (listed : List ℕ) where
  abbrev its_notes : Expr → List Note
  its_notes expr = expr_notes world answers context listed expr

  -- an expression that is part of another one, in the same context
  abbrev pub IsIn : Expr → Expr → Type 0
  IsIn whole part =
      IsPart (its_notes whole) (expr_keys whole) (expr_scoped whole) (its_notes part)
      (expr_keys part) (expr_scoped part)

  -- the arguments and the operators of an expression
  abbrev pub HasArgs : Expr → List Arg → Type 0
  HasArgs whole args =
      IsPart (its_notes whole) (expr_keys whole) (expr_scoped whole)
      (args_notes world answers args context listed) (joined (map arg_keys args))
      (each (map arg_scoped args))

  abbrev pub HasLinks : Expr → List Link → Type 0
  HasLinks whole links =
      IsPart (its_notes whole) (expr_keys whole) (expr_scoped whole)
      (links_notes world answers links context listed) (joined (map link_keys links))
      (each (map link_scoped links))

  -- what is noted of arguments and of operators is of their keys
  pub args_cover : (args : List Arg)
      → Covers (args_notes world answers args context listed) (joined (map arg_keys args))
  args_cover [] key none = lacks_nothing key
  args_cover (arg ∷ args) key none =
      let split = in_all-append hits (arg_keys arg) (joined (map arg_keys args)) key in
      lacks_join _ _ key
      (arg_covers world answers arg context listed key (omega (arith, none, split)))
      (args_cover args key (omega (arith, none, split)))

  pub links_cover : (links : List Link)
      → Covers (links_notes world answers links context listed) (joined (map link_keys links))
  links_cover [] key none = lacks_nothing key
  links_cover (link ∷ links) key none =
      let split = in_all-append hits (link_keys link) (joined (map link_keys links)) key in
      lacks_join _ _ key
      (link_covers world answers link context listed key (omega (arith, none, split)))
      (links_cover links key (omega (arith, none, split)))

  -- the base of a member
  pub member_base : (base : Expr) (name : Name) → IsIn (exprs.Member base name) base
  member_base base name =
      part_by _ _ _ _ _ _ _ _ _ (noted.notes-Member world answers context listed base name)
      (keys.expr_keys-Member base name) (placed.scoped-Member base name)
      (record {
        share = share_keys _ (name.at ∷ expr_keys base) (expr_keys base ++ name.at ∷ []) _ _
            (λ key. omega (
              arith,
              in_all-cons hits name.at (expr_keys base) key,
              in_all-append hits (expr_keys base) (name.at ∷ []) key,
              one_key name.at key,
            ))
            (share_left (its_notes base)
            (member_notes world answers (see world answers base) name.at context)
            (expr_keys base) (name.at ∷ []) (λ key none.
            member_covers world answers (see world answers base) name.at context key
            (omega (arith, none, one_key name.at key))));
        within = within_same (expr_scoped base);
      })

  -- the arguments of a call
  pub call_args : (name : Name) (args : List Arg) → HasArgs (exprs.Call name args) args
  call_args name args =
      part_by _ _ _ _ _ _ _ _ _ (noted.notes-Call world answers context listed name args)
      (keys.expr_keys-Call name args) (placed.scoped-Call name args)
      (part_right (word_notes world answers context name.at) _ (name.at ∷ []) _ (using name) _
      (λ key none.
      word_covers world answers name.at context key (omega (arith, none, one_key name.at key))))

  -- the base and the arguments of a method
  pub method_base : (base : Expr) (name : Name) (args : List Arg)
      → IsIn (exprs.Method base name args) base
  method_base base name args =
      part_by _ _ _ _ _ _ _ _ _ (noted.notes-Method world answers context listed base name args)
      (keys.expr_keys-Method base name args) (placed.scoped-Method base name args)
      (record {
        share = share_then _ _ (its_notes base ++ member)
            (name.at ∷ expr_keys base) _ _
            (share_left (its_notes base ++ member) (args_notes world answers args context listed)
            (name.at ∷ expr_keys base) (joined (map arg_keys args)) (args_cover args))
            (share_keys _ (name.at ∷ expr_keys base) (expr_keys base ++ name.at ∷ []) _ _
            (λ key. omega (
              arith,
              in_all-cons hits name.at (expr_keys base) key,
              in_all-append hits (expr_keys base) (name.at ∷ []) key,
              one_key name.at key,
            ))
            (share_left (its_notes base) member (expr_keys base) (name.at ∷ []) (λ key none.
            member_covers world answers (see world answers base) name.at context key
            (omega (arith, none, one_key name.at key)))));
        within = within_left (expr_scoped base) (each (map arg_scoped args));
      }) where
        member : List Note
        member = member_notes world answers (see world answers base) name.at context

  pub method_args : (base : Expr) (name : Name) (args : List Arg)
      → HasArgs (exprs.Method base name args) args
  method_args base name args =
      part_by _ _ _ _ _ _ _ _ _ (noted.notes-Method world answers context listed base name args)
      (keys.expr_keys-Method base name args) (placed.scoped-Method base name args)
      (record {
        share = share_right (its_notes base ++ member)
            (args_notes world answers args context listed) (name.at ∷ expr_keys base)
            (joined (map arg_keys args)) (λ key none.
            let split = in_all-cons hits name.at (expr_keys base) key in
            lacks_join (its_notes base) member key
            (expr_covers world answers base context listed key (omega (arith, none, split)))
            (member_covers world answers (see world answers base) name.at context key
            (omega (arith, none, split))));
        within = within_right (expr_scoped base) (each (map arg_scoped args));
      }) where
        member : List Note
        member = member_notes world answers (see world answers base) name.at context

  -- the operands of a chain
  pub chain_first : (first : Expr) (rest : List Link) → IsIn (exprs.Chain first rest) first
  chain_first first rest =
      part_by _ _ _ _ _ _ _ _ _ (noted.notes-Chain world answers context listed first rest)
      (keys.expr_keys-Chain first rest) (placed.scoped-Chain first rest)
      (part_left (its_notes first) _ (expr_keys first) _ (expr_scoped first) _ (links_cover rest))

  pub chain_rest : (first : Expr) (rest : List Link) → HasLinks (exprs.Chain first rest) rest
  chain_rest first rest =
      part_by _ _ _ _ _ _ _ _ _ (noted.notes-Chain world answers context listed first rest)
      (keys.expr_keys-Chain first rest) (placed.scoped-Chain first rest)
      (part_right (its_notes first) _ (expr_keys first) _ (expr_scoped first) _
      (expr_covers world answers first context listed))

  pub prefix_inner : (op : PrefixOp) (at : ℕ) (inner : Expr)
      → IsIn (exprs.Prefix op at inner) inner
  prefix_inner op at inner =
      part_by _ _ _ _ _ _ _ _ _ (noted.notes-Prefix world answers context listed op at inner)
      (keys.expr_keys-Prefix op at inner) (placed.scoped-Prefix op at inner)
      (part_next at (its_notes inner) (expr_keys inner) (expr_scoped inner))

  -- what is awaited, in its own context
  pub await_inner : (at : ℕ) (inner : Expr)
      → IsPart (its_notes (exprs.Await at inner)) (expr_keys (exprs.Await at inner))
      (expr_scoped (exprs.Await at inner))
      (expr_notes world answers (in_await context) listed inner) (expr_keys inner)
      (expr_scoped inner)
  await_inner at inner =
      part_by _ _ _ _ _ _ _ _ _ (noted.notes-Await world answers context listed at inner)
      (keys.expr_keys-Await at inner) (placed.scoped-Await at inner)
      (part_next at _ (expr_keys inner) (expr_scoped inner))

  -- the first argument and those after it
  pub args_first : (label : Option Name) (value : Expr) (args : List Arg)
      → IsPart
      (args_notes world answers (roll-Arg (record { label = label; value = value }) ∷ args) context
      listed)
      (joined (map arg_keys (roll-Arg (record { label = label; value = value }) ∷ args)))
      (each (map arg_scoped (roll-Arg (record { label = label; value = value }) ∷ args)))
      (its_notes value) (expr_keys value) (expr_scoped value)
  args_first label value args =
      part_then _ _ _ _ _ _ _ _ _
      (part_left _ _ _ _ _ (each (map arg_scoped args)) (args_cover args))
      (part_by _ _ _ _ _ _ _ _ _ (noted.notes-arg world answers context listed label value)
      (keys.arg_keys-roll label value) (placed.scoped-arg label value)
      (part_same (its_notes value) (expr_keys value) (expr_scoped value)))

  pub args_more : (arg : Arg) (args : List Arg)
      → IsPart (args_notes world answers (arg ∷ args) context listed)
      (joined (map arg_keys (arg ∷ args))) (each (map arg_scoped (arg ∷ args)))
      (args_notes world answers args context listed) (joined (map arg_keys args))
      (each (map arg_scoped args))
  args_more arg args =
      part_right _ _ (arg_keys arg) _ (arg_scoped arg) _
      (arg_covers world answers arg context listed)

  -- the first operator's operand, and the operators after it
  pub links_first : (op : InfixOp) (at : ℕ) (operand : Expr) (links : List Link)
      → IsPart
      (links_notes world answers
      (roll-Link (record { op = op; at = at; operand = operand }) ∷ links) context listed)
      (joined (map link_keys (roll-Link (record { op = op; at = at; operand = operand }) ∷ links)))
      (each (map link_scoped (roll-Link (record { op = op; at = at; operand = operand }) ∷ links)))
      (its_notes operand) (expr_keys operand) (expr_scoped operand)
  links_first op at operand links =
      part_then _ _ _ _ _ _ _ _ _
      (part_left _ _ _ _ _ (each (map link_scoped links)) (links_cover links))
      (part_by _ _ _ _ _ _ _ _ _ (noted.notes-link world answers context listed op at operand)
      (keys.link_keys-roll op at operand) (placed.scoped-link op at operand)
      (part_next at (its_notes operand) (expr_keys operand) (expr_scoped operand)))

  pub links_more : (link : Link) (links : List Link)
      → IsPart (links_notes world answers (link ∷ links) context listed)
      (joined (map link_keys (link ∷ links))) (each (map link_scoped (link ∷ links)))
      (links_notes world answers links context listed) (joined (map link_keys links))
      (each (map link_scoped links))
  links_more link links =
      part_right _ _ (link_keys link) _ (link_scoped link) _
      (link_covers world answers link context listed)
