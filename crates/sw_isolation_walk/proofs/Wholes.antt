-- What is noted of a tree that the walk goes over, by what it noted of the tree's parts.
use Rattle.std.proofs.Common.{◌≡◌, ◌+◌, ◌<◌, ℕ, Bool, true, List, [], ◌∷◌, ◌++◌, Option, Some, None}
use Rattle.std.proofs.Common.{◌⊎◌, inl, inr, false, refl, ap, drop, get_or, length, map, sym, ◌∙◌}
use Rattle.std.proofs.lemmas.Bool.{false≢true, true≢false}
use Rattle.std.proofs.lemmas.List.{drop_more}
use Rattle.sw_tree.specs.Folds.{fold_arg, fold_case_arm, fold_if_arm, fold_stmt}
use Rattle.sw_tree.specs.declared.expr.Arg.{Arg, out-Arg}
use Rattle.sw_tree.specs.declared.expr.Closure.{Closure, out-Closure}
use Rattle.sw_tree.specs.declared.expr.Expr.{Expr}
use Rattle.sw_tree.specs.declared.expr.Expr.TheVariants as exprs
use Rattle.sw_tree.specs.declared.expr.Link.{Link, out-Link}
use Rattle.sw_tree.specs.declared.name.Name.{Name}
use Rattle.sw_tree.specs.declared.operator.AssignOp.{AssignOp}
use Rattle.sw_tree.specs.declared.operator.AssignOp.TheVariants as assigns
use Rattle.sw_tree.specs.declared.operator.PrefixOp.{PrefixOp}
use Rattle.sw_tree.specs.declared.stmt.Block.{Block, out-Block}
use Rattle.sw_tree.specs.declared.stmt.CaseArm.{CaseArm, out-CaseArm}
use Rattle.sw_tree.specs.declared.stmt.IfArm.{IfArm, out-IfArm}
use Rattle.sw_tree.specs.declared.stmt.Stmt.{Stmt}
use Rattle.sw_tree.specs.declared.stmt.Stmt.TheVariants as stmts
use Rattle.sw_typing_rules.specs.Worlds.{World}
use Rattle.sw_isolation_rules.specs.Answers.{Answers}
use Rattle.sw_isolation_rules.specs.Captures.{closed, list_mentions}
use Rattle.sw_isolation_rules.specs.Noting.{block_notes, fun_notes}
use Rattle.sw_isolation_rules.specs.Noting.{in_await, note_steps, place_notes}
use Rattle.sw_isolation_rules.specs.Noting.{see, stmt_notes, store_notes, task_notes, use_notes}
use Rattle.sw_isolation_rules.specs.Noting.{used_at, with_list, word_notes}
use Rattle.sw_isolation_rules.specs.Uses.{base_of}
use Rattle.sw_isolation_rules.specs.declared.note.Note.{Note}
use Rattle.sw_isolation_rules.specs.declared.note.Note.TheVariants.{Mentioned}
use Rattle.sw_isolation_rules.specs.declared.uses.Base.{Base}
use Rattle.sw_isolation_rules.specs.declared.uses.Callee.{Callee}
use Rattle.sw_isolation_rules.specs.declared.uses.Context.{Context}
use Rattle.sw_isolation_rules.specs.declared.uses.Storage.{Storage}
use Rattle.sw_isolation_rules.specs.declared.uses.Used.{Used}
use Rattle.sw_isolation_rules.specs.declared.uses.Used.TheVariants.{Called, Nothing, Stored}
use Rattle.sw_isolation_rules.specs.declared.uses.Used.TheVariants.{Waited}
use Rattle.sw_isolation_walk.proofs.Adding.{next_of}
use Rattle.sw_isolation_walk.proofs.Forms as forms
use Rattle.sw_isolation_walk.specs.Walked.{args_noted, before_place, case_arms_noted, closure_seen}
use Rattle.sw_isolation_walk.specs.Walked.{if_arm_noted, if_arms_noted, is_set, links_noted}
use Rattle.sw_isolation_walk.specs.Walked.{otherwise_noted, stmts_noted, written_place}

-- a place whose last word is no part of a struct's value is written by that word alone
pub written_alone : (context : Context) (at : ℕ) (one : Used) (inside : List Note)
    → ((callee : Callee) × (sends : Bool) × (one ≡ Called callee sends))
    ⊎ (((storage : Storage) × (one ≡ Stored storage)) ⊎ ((one ≡ Waited) ⊎ (one ≡ Nothing)))
    → store_notes context at one inside ≡ store_notes context at one []
written_alone context at one inside is = by is where
  by_one : (form : Used) → store_notes context at form inside ≡ store_notes context at form []
      → one ≡ form → store_notes context at one inside ≡ store_notes context at one []
  by_one form same e =
      ap (λ u. store_notes context at u inside) e
      ∙ (same ∙ sym (ap (λ u. store_notes context at u []) e))

  by : ((callee : Callee) × (sends : Bool) × (one ≡ Called callee sends))
      ⊎ (((storage : Storage) × (one ≡ Stored storage)) ⊎ ((one ≡ Waited) ⊎ (one ≡ Nothing)))
      → store_notes context at one inside ≡ store_notes context at one []
  by (inl w) = by_one (Called w.0 w.1) refl w.2
  by (inr (inl w)) = by_one (Stored w.0) refl w.1
  by (inr (inr (inl e))) = by_one Waited refl e
  by (inr (inr (inr e))) = by_one Nothing refl e

module _ (world : World) (answers : Answers) (context : Context) (listed : List ℕ) where
  abbrev noted : Expr → List Note
  noted tree = (see world answers tree).notes context listed

  abbrev said : Stmt → List Note
  said tree = stmt_notes world answers tree context listed

  abbrev of_member : Base → ℕ → List Note
  of_member base at = use_notes context at (used_at world answers context base at)

  pub expr_whole : (tree form : Expr) (one : List Note) → tree ≡ form
      → (see world answers form).notes context listed ≡ one
      → (see world answers tree).notes context listed ≡ one
  expr_whole tree form one is e = ap noted is ∙ e

  pub place_whole : (tree form : Expr) (one : List Note) → tree ≡ form
      → before_place world answers form context listed ≡ one
      → before_place world answers tree context listed ≡ one
  place_whole tree form one is e =
      ap (λ place. before_place world answers place context listed) is ∙ e

  pub stmt_whole : (tree form : Stmt) (one : List Note) → tree ≡ form
      → stmt_notes world answers form context listed ≡ one
      → stmt_notes world answers tree context listed ≡ one
  stmt_whole tree form one is e = ap said is ∙ e

  pub member_whole : (tree base part : Expr) (name : Name) (known : Base)
      → tree ≡ exprs.Member base name → part ≡ base
      → known ≡ base_of answers (see world answers part).key (see world answers part).is_self
      → (see world answers tree).notes context listed
      ≡ (see world answers part).notes context listed
      ++ use_notes context name.at (used_at world answers context known name.at)
  member_whole tree base part name known is p k =
      ap noted (is ∙ ap (λ b. exprs.Member b name) (sym p))
      ∙ (forms.member_is world answers context listed part name
      ∙ ap (λ b. noted part ++ of_member b name.at) (sym k))

  pub call_whole : (tree : Expr) (name : Name) (args given : List Arg)
      → tree ≡ exprs.Call name args → given ≡ args
      → (see world answers tree).notes context listed
      ≡ word_notes world answers context name.at ++ args_noted world answers given context listed
  call_whole tree name args given is g =
      ap noted (is ∙ ap (λ a. exprs.Call name a) (sym g))
      ∙ forms.call_is world answers context listed name given

  pub method_whole : (tree base part : Expr) (name : Name) (args given : List Arg) (known : Base)
      (left : List ℕ) → tree ≡ exprs.Method base name args → part ≡ base → given ≡ args
      → known ≡ base_of answers (see world answers part).key (see world answers part).is_self
      → left ≡ listed
      → (see world answers tree).notes context listed
      ≡ (see world answers part).notes context listed
      ++ use_notes context name.at (used_at world answers context known name.at)
      ++ args_noted world answers given context left
  method_whole tree base part name args given known left is p g k l =
      ap noted (is ∙ (ap (λ b. exprs.Method b name args) (sym p)
      ∙ ap (λ a. exprs.Method part name a) (sym g)))
      ∙ (forms.method_is world answers context listed part name given
      ∙ (ap (λ b. noted part ++ of_member b name.at
      ++ args_noted world answers given context listed) (sym k)
      ∙ ap (λ x. noted part ++ of_member known name.at
      ++ args_noted world answers given context x) (sym l)))

  pub chain_whole : (tree first part : Expr) (rest given : List Link) (left : List ℕ)
      → tree ≡ exprs.Chain first rest → part ≡ first → given ≡ rest → left ≡ listed
      → (see world answers tree).notes context listed
      ≡ (see world answers part).notes context listed
      ++ links_noted world answers given context left
  chain_whole tree first part rest given left is p g l =
      ap noted (is ∙ (ap (λ b. exprs.Chain b rest) (sym p)
      ∙ ap (λ a. exprs.Chain part a) (sym g)))
      ∙ (forms.chain_is world answers context listed part given
      ∙ ap (λ x. noted part ++ links_noted world answers given context x) (sym l))

  pub prefix_whole : (tree inner part : Expr) (op : PrefixOp) (at : ℕ)
      → tree ≡ exprs.Prefix op at inner → part ≡ inner
      → (see world answers tree).notes context listed
      ≡ (see world answers part).notes context listed
  prefix_whole tree inner part op at is p =
      ap noted (is ∙ ap (λ b. exprs.Prefix op at b) (sym p))
      ∙ forms.prefix_is world answers context listed op at part

  pub await_whole : (tree inner part : Expr) (at : ℕ) (within : Context)
      → tree ≡ exprs.Await at inner → part ≡ inner → within ≡ in_await context
      → (see world answers tree).notes context listed
      ≡ (see world answers part).notes within listed
  await_whole tree inner part at within is p w =
      ap noted (is ∙ ap (λ b. exprs.Await at b) (sym p))
      ∙ (forms.await_is world answers context listed at part
      ∙ ap (λ x. (see world answers part).notes x listed) (sym w))

  pub fun_whole : (tree : Expr) (closure part : Closure)
      → tree ≡ exprs.Fun closure → part ≡ closure
      → (see world answers tree).notes context listed
      ≡ fun_notes world answers (closure_seen world answers part) context listed
  fun_whole tree closure part is p =
      ap noted (is ∙ ap (λ b. exprs.Fun b) (sym p))
      ∙ forms.fun_is world answers context listed part

  pub spawn_whole : (tree : Expr) (body part : Closure) (at : ℕ) (detached : Bool)
      → tree ≡ exprs.Spawn at detached body → part ≡ body
      → (see world answers tree).notes context listed
      ≡ task_notes world answers at detached (closure_seen world answers part) context listed
  spawn_whole tree body part at detached is p =
      ap noted (is ∙ ap (λ b. exprs.Spawn at detached b) (sym p))
      ∙ forms.spawn_is world answers context listed at detached part

  pub member_place_whole : (tree base part : Expr) (name : Name)
      → tree ≡ exprs.Member base name → part ≡ base
      → before_place world answers tree context listed
      ≡ (see world answers part).notes context listed
  member_place_whole tree base part name is p =
      place_whole tree (exprs.Member part name) _ (is ∙ ap (λ b. exprs.Member b name) (sym p))
      (forms.member_before world answers context listed part name)

  pub set_place : (op : AssignOp) (tree : Expr) → is_set op ≡ true
      → place_notes world answers op (see world answers tree) context listed
      ≡ before_place world answers tree context listed
      ++ written_place world answers tree context
  unfolding before_place written_place
  set_place assigns.Set tree is = refl
  set_place assigns.Add tree is = absurd (false≢true is)
  set_place assigns.Subtract tree is = absurd (false≢true is)
  set_place assigns.Multiply tree is = absurd (false≢true is)
  set_place assigns.Divide tree is = absurd (false≢true is)
  set_place assigns.Remainder tree is = absurd (false≢true is)

  pub changed_place : (op : AssignOp) (tree : Expr) → is_set op ≡ false
      → place_notes world answers op (see world answers tree) context listed
      ≡ (see world answers tree).notes context listed
      ++ written_place world answers tree context
  unfolding written_place
  changed_place assigns.Set tree is = absurd (true≢false is)
  changed_place assigns.Add tree is = refl
  changed_place assigns.Subtract tree is = refl
  changed_place assigns.Multiply tree is = refl
  changed_place assigns.Divide tree is = refl
  changed_place assigns.Remainder tree is = refl

  -- the assignment to a member of a place, by what the member is
  pub stores_whole : (tree base part : Expr) (name : Name) (at : ℕ) (known : Base) (one : Used)
      → tree ≡ exprs.Member base name → part ≡ base
      → known ≡ base_of answers (see world answers part).key (see world answers part).is_self
      → one ≡ used_at world answers context known name.at
      → (see world answers tree).stores context at
      ≡ store_notes context at one ((see world answers part).stores context at)
  stores_whole tree base part name at known one is p k u =
      ap (λ t. (see world answers t).stores context at)
      (is ∙ ap (λ b. exprs.Member b name) (sym p))
      ∙ (forms.member_stores world answers context listed part name at
      ∙ (ap (λ b. store_notes context at (used_at world answers context b name.at)
      ((see world answers part).stores context at)) (sym k)
      ∙ ap (λ b. store_notes context at b ((see world answers part).stores context at)) (sym u)))

  pub assign_whole : (tree : Stmt) (at : ℕ) (op : AssignOp) (place value : Expr) (left : List ℕ)
      → tree ≡ stmts.Assign at op place value → left ≡ listed
      → stmt_notes world answers tree context listed
      ≡ place_notes world answers op (see world answers place) context listed
      ++ (see world answers value).notes context left
  assign_whole tree at op place value left is l =
      ap said is ∙ (forms.assign_is world answers context listed at op place value
      ∙ ap (λ x. place_notes world answers op (see world answers place) context listed
      ++ (see world answers value).notes context x) (sym l))

  pub if_whole : (tree : Stmt) (arms given : List IfArm) (otherwise : Option Block)
      (left : List ℕ) → tree ≡ stmts.If arms otherwise → given ≡ arms → left ≡ listed
      → stmt_notes world answers tree context listed
      ≡ if_arms_noted world answers given context listed
      ++ otherwise_noted world answers otherwise context left
  if_whole tree arms given otherwise left is g l =
      ap said (is ∙ ap (λ a. stmts.If a otherwise) (sym g))
      ∙ (forms.if_is world answers context listed given otherwise
      ∙ ap (λ x. if_arms_noted world answers given context listed
      ++ otherwise_noted world answers otherwise context x) (sym l))

  pub while_whole : (tree : Stmt) (at : ℕ) (cond : Expr) (body : Block) (left : List ℕ)
      → tree ≡ stmts.While at cond body → left ≡ listed
      → stmt_notes world answers tree context listed
      ≡ (see world answers cond).notes context listed
      ++ block_notes world answers body context left
  while_whole tree at cond body left is l =
      ap said is ∙ (forms.while_is world answers context listed at cond body
      ∙ ap (λ x. (see world answers cond).notes context listed
      ++ block_notes world answers body context x) (sym l))

  pub switch_whole : (tree : Stmt) (at : ℕ) (subject : Expr) (arms given : List CaseArm)
      (otherwise : Option Block) (left last : List ℕ)
      → tree ≡ stmts.Switch at subject arms otherwise → given ≡ arms → left ≡ listed
      → last ≡ left
      → stmt_notes world answers tree context listed
      ≡ (see world answers subject).notes context listed
      ++ case_arms_noted world answers given context left
      ++ otherwise_noted world answers otherwise context last
  switch_whole tree at subject arms given otherwise left last is g l m =
      ap said (is ∙ ap (λ a. stmts.Switch at subject a otherwise) (sym g))
      ∙ (forms.switch_is world answers context listed at subject given otherwise
      ∙ (ap (λ x. (see world answers subject).notes context listed
      ++ case_arms_noted world answers given context x
      ++ otherwise_noted world answers otherwise context x) (sym l)
      ∙ ap (λ x. (see world answers subject).notes context listed
      ++ case_arms_noted world answers given context left
      ++ otherwise_noted world answers otherwise context x) (sym m)))

  pub return_whole : (tree : Stmt) (at : ℕ) (held : Option Expr) (value : Expr)
      → tree ≡ stmts.Return at held → held ≡ Some value
      → stmt_notes world answers tree context listed
      ≡ (see world answers value).notes context listed
  return_whole tree at held value is h =
      ap said (is ∙ ap (λ v. stmts.Return at v) h)
      ∙ forms.return_is world answers context listed at value

  pub void_whole : (tree : Stmt) (at : ℕ) (held : Option Expr)
      → tree ≡ stmts.Return at held → held ≡ None
      → stmt_notes world answers tree context listed ≡ []
  void_whole tree at held is h =
      ap said (is ∙ ap (λ v. stmts.Return at v) h)
      ∙ forms.return_void_is world answers context listed at

  pub if_arm_whole : (arm : IfArm) (left : List ℕ) → left ≡ listed
      → if_arm_noted world answers arm context listed
      ≡ (see world answers (out-IfArm arm).cond).notes context listed
      ++ block_notes world answers (out-IfArm arm).body context left
  if_arm_whole arm left l =
      forms.if_arm_is world answers context listed arm
      ∙ ap (λ x. (see world answers (out-IfArm arm).cond).notes context listed
      ++ block_notes world answers (out-IfArm arm).body context x) (sym l)

  pub otherwise_whole : (tree : Option Block) (block : Block) → tree ≡ Some block
      → otherwise_noted world answers tree context listed
      ≡ block_notes world answers block context listed
  unfolding block_notes
  otherwise_whole tree block is = ap (λ t. otherwise_noted world answers t context listed) is

  pub block_whole : (tree : Block) (given : List Stmt) → given ≡ (out-Block tree).stmts
      → block_notes world answers tree context listed
      ≡ stmts_noted world answers given context listed
  block_whole tree given g = forms.block_is world answers context listed tree
      ∙ ap (λ s. stmts_noted world answers s context listed) (sym g)

  -- what a closure makes of what is noted inside it
  pub inside_whole : (tree : Closure) (words : List Name) (own left : List ℕ)
      (first inner : List Note)
      → words ≡ (out-Closure tree).captures
      → own ≡ with_list world answers context listed words → left ≡ own
      → first ≡ [] ++ map Mentioned (list_mentions world answers context.owner words)
      → inner ≡ first ++ block_notes world answers (out-Closure tree).body context own
      → (closure_seen world answers tree).inside context listed
      ≡ closed world context (out-Closure tree).at left inner
  inside_whole tree words own left first inner w o l f i =
      let at = (out-Closure tree).at in
      let body = block_notes world answers (out-Closure tree).body in
      let inner_of = λ (v : List Name) (x : List ℕ).
      map Mentioned (list_mentions world answers context.owner v) ++ body context x in
      forms.inside_is world answers context listed tree
      ∙ (ap (λ v. closed world context at (with_list world answers context listed v)
      (inner_of v (with_list world answers context listed v))) (sym w)
      ∙ (ap (λ x. closed world context at x (inner_of words x)) (sym o)
      ∙ (ap (λ x. closed world context at x (inner_of words own)) (sym l)
      ∙ ap (λ n. closed world context at left n)
      (sym (i ∙ ap (λ n. n ++ body context own) f)))))

  pub args_next : (args : List Arg) (i : ℕ) (arg : Arg) → i < length args
      → arg ≡ get_or args i arg
      → args_noted world answers (drop i args) context listed
      ≡ (see world answers (out-Arg arg).value).notes context listed
      ++ args_noted world answers (drop (i + 1) args) context listed
  args_next args i arg lt is =
      next_of (fold_arg (note_steps world answers)) args i arg context listed lt is
      ∙ ap (λ n. n ++ args_noted world answers (drop (i + 1) args) context listed)
      (forms.arg_is world answers context listed arg)

  pub links_next : (links : List Link) (i : ℕ) (link : Link) → i < length links
      → link ≡ get_or links i link
      → links_noted world answers (drop i links) context listed
      ≡ (see world answers (out-Link link).operand).notes context listed
      ++ links_noted world answers (drop (i + 1) links) context listed
  links_next links i link lt is =
      ap (λ more. links_noted world answers more context listed)
      (drop_more links i link lt ∙ ap (λ y. y ∷ drop (i + 1) links) (sym is))
      ∙ ap (λ n. n ++ links_noted world answers (drop (i + 1) links) context listed)
      (forms.link_is world answers context listed link)

  pub case_arms_next : (arms : List CaseArm) (i : ℕ) (arm : CaseArm) → i < length arms
      → arm ≡ get_or arms i arm
      → case_arms_noted world answers (drop i arms) context listed
      ≡ block_notes world answers (out-CaseArm arm).body context listed
      ++ case_arms_noted world answers (drop (i + 1) arms) context listed
  case_arms_next arms i arm lt is =
      next_of (fold_case_arm (note_steps world answers)) arms i arm context listed lt is
      ∙ ap (λ n. n ++ case_arms_noted world answers (drop (i + 1) arms) context listed)
      (forms.case_arm_is world answers context listed arm)

  pub if_arms_next : (arms : List IfArm) (i : ℕ) (arm : IfArm) → i < length arms
      → arm ≡ get_or arms i arm
      → if_arms_noted world answers (drop i arms) context listed
      ≡ fold_if_arm (note_steps world answers) arm context listed
      ++ if_arms_noted world answers (drop (i + 1) arms) context listed
  if_arms_next arms i arm lt is =
      next_of (fold_if_arm (note_steps world answers)) arms i arm context listed lt is

  pub stmts_next : (trees : List Stmt) (i : ℕ) (tree : Stmt) → i < length trees
      → tree ≡ get_or trees i tree
      → stmts_noted world answers (drop i trees) context listed
      ≡ stmt_notes world answers tree context listed
      ++ stmts_noted world answers (drop (i + 1) trees) context listed
  unfolding stmt_notes
  stmts_next trees i tree lt is =
      next_of (fold_stmt (note_steps world answers)) trees i tree context listed lt is
