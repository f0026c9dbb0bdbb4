-- The parts of statements.
use Rattle.std.proofs.Common.{ℕ, Bool, List, [], ◌∷◌, ◌++◌, map, flat_map, Option, None}
use Rattle.std.proofs.Common.{Some, option_map, unwrap_or, refl, arith}
use Rattle.std.specs.Prelude.{◌≢◌}
use Rattle.sw_tree.specs.Keys.{Keys, block_keys, case_arm_keys, expr_keys, if_arm_keys, joined}
use Rattle.sw_tree.specs.Keys.{pattern_keys, stmt_keys}
use Rattle.sw_tree.specs.declared.expr.Expr.{Expr}
use Rattle.sw_tree.specs.declared.expr.Expr.TheVariants as exprs
use Rattle.sw_tree.specs.declared.name.Name.{Name}
use Rattle.sw_tree.specs.declared.operator.AssignOp.{AssignOp}
use Rattle.sw_tree.specs.declared.operator.AssignOp.TheVariants as assigns
use Rattle.sw_tree.specs.declared.stmt.Block.{Block, roll-Block}
use Rattle.sw_tree.specs.declared.stmt.CaseArm.{CaseArm, roll-CaseArm}
use Rattle.sw_tree.specs.declared.stmt.IfArm.{IfArm, roll-IfArm}
use Rattle.sw_tree.specs.declared.stmt.Pattern.{Pattern}
use Rattle.sw_tree.specs.declared.stmt.Stmt.{Stmt}
use Rattle.sw_tree.specs.declared.stmt.Stmt.TheVariants as stmts
use Rattle.sw_tree.specs.declared.type_tree.TypeTree.{TypeTree}
use Rattle.sw_tree.proofs.Counting.{hits, in_all-append}
use Rattle.sw_tree.proofs.KeyEquations as keys
use Rattle.sw_typing_rules.specs.Worlds.{World}
use Rattle.sw_isolation_rules.specs.Answers.{Answers}
use Rattle.sw_isolation_rules.specs.Noting.{place_notes, see, var_notes}
use Rattle.sw_isolation_rules.specs.declared.note.Note.{Note}
use Rattle.sw_isolation_rules.specs.declared.uses.Context.{Context}
use Rattle.sw_tree.specs.Scopes.{block_scoped, both, declaring, each, expr_scoped}
use Rattle.sw_lower_total_facts.proofs.Standing.Covering.{Covers, block_covers, case_arm_covers}
use Rattle.sw_lower_total_facts.proofs.Standing.Covering.{expr_covers, if_arm_covers, place_covers}
use Rattle.sw_lower_total_facts.proofs.Standing.Covering.{stmt_covers, stores_bare, var_covers}
use Rattle.sw_lower_total_facts.proofs.Standing.Expressions.{one_key}
use Rattle.sw_lower_total_facts.proofs.Standing.NoteForms as noted
use Rattle.sw_lower_total_facts.proofs.Standing.NoteForms.{case_arms_notes, expr_notes, if_arms_notes}
use Rattle.sw_lower_total_facts.proofs.Standing.NoteForms.{noted_stmt, notes_in, otherwise_notes}
use Rattle.sw_lower_total_facts.proofs.Standing.NoteForms.{stmts_notes}
use Rattle.sw_lower_total_facts.proofs.Standing.Noting.{lacks_join, lacks_nothing}
use Rattle.sw_lower_total_facts.proofs.Standing.ScopeForms as placed
use Rattle.sw_lower_total_facts.proofs.Standing.ScopeForms.{all_scoped, case_arm_scoped}
use Rattle.sw_lower_total_facts.proofs.Standing.ScopeForms.{if_arm_scoped, otherwise_scoped}
use Rattle.sw_lower_total_facts.proofs.Standing.ScopeForms.{patterns_names, stmt_scoped, stmt_stated}
use Rattle.sw_lower_total_facts.proofs.Standing.Scopes.{within_left, within_right, within_same}
use Rattle.sw_lower_total_facts.proofs.Standing.Parts.{IsPart, part_by, part_left, part_next, part_right}
use Rattle.sw_lower_total_facts.proofs.Standing.Parts.{part_same, part_then, share_before, share_left}
use Rattle.sw_lower_total_facts.proofs.Standing.Parts.{share_next, share_right, share_then}

-- the keys of an `else` or a `default`
abbrev pub otherwise_keys : Option Block → Keys
otherwise_keys otherwise = unwrap_or (option_map block_keys otherwise) []

-- arms by their parts
abbrev pub if_arm_of : ℕ → Expr → Block → IfArm
if_arm_of at cond body = roll-IfArm (record { at = at; cond = cond; body = body })

abbrev pub case_arm_of : Name → List Pattern → Block → CaseArm
case_arm_of name patterns body =
    roll-CaseArm (record { name = name; patterns = patterns; body = body })

module _ (world : World) (answers : Answers) (context : Context) (listed : List ℕ) where
  abbrev its_notes : Expr → List Note
  its_notes expr = expr_notes world answers context listed expr

  abbrev its_block : Block → List Note
  its_block block = notes_in world answers context listed block

  abbrev stmt_noted : Stmt → List Note
  stmt_noted stmt = noted_stmt world answers context listed stmt

  -- an expression, and a block, of a statement
  abbrev pub HasExpr : Stmt → Expr → Type 0
  HasExpr stmt expr =
      IsPart (stmt_noted stmt) (stmt_keys stmt) (stmt_scoped stmt) (its_notes expr)
      (expr_keys expr) (expr_scoped expr)

  abbrev pub HasBlock : Stmt → Block → Type 0
  HasBlock stmt block =
      IsPart (stmt_noted stmt) (stmt_keys stmt) (stmt_scoped stmt) (its_block block)
      (block_keys block) (block_scoped block)

  -- what is noted of lists of trees is of their keys
  pub stmts_cover : (list : List Stmt)
      → Covers (stmts_notes world answers list context listed) (joined (map stmt_keys list))
  stmts_cover [] key none = lacks_nothing key
  stmts_cover (stmt ∷ list) key none =
      let split = in_all-append hits (stmt_keys stmt) (joined (map stmt_keys list)) key in
      lacks_join _ _ key
      (stmt_covers world answers stmt context listed key (omega (arith, none, split)))
      (stmts_cover list key (omega (arith, none, split)))

  pub if_arms_cover : (arms : List IfArm)
      → Covers (if_arms_notes world answers arms context listed) (joined (map if_arm_keys arms))
  if_arms_cover [] key none = lacks_nothing key
  if_arms_cover (arm ∷ arms) key none =
      let split = in_all-append hits (if_arm_keys arm) (joined (map if_arm_keys arms)) key in
      lacks_join _ _ key
      (if_arm_covers world answers arm context listed key (omega (arith, none, split)))
      (if_arms_cover arms key (omega (arith, none, split)))

  pub case_arms_cover : (arms : List CaseArm)
      → Covers (case_arms_notes world answers arms context listed)
      (joined (map case_arm_keys arms))
  case_arms_cover [] key none = lacks_nothing key
  case_arms_cover (arm ∷ arms) key none =
      let split = in_all-append hits (case_arm_keys arm) (joined (map case_arm_keys arms)) key in
      lacks_join _ _ key
      (case_arm_covers world answers arm context listed key (omega (arith, none, split)))
      (case_arms_cover arms key (omega (arith, none, split)))

  pub otherwise_cover : (otherwise : Option Block)
      → Covers (otherwise_notes world answers otherwise context listed) (otherwise_keys otherwise)
  otherwise_cover None key none = lacks_nothing key
  otherwise_cover (Some block) key none = block_covers world answers block context listed key none

  -- the value of a variable
  pub bind_value : (mutable : Bool) (name : Name) (ty : Option TypeTree) (value : Expr)
      → HasExpr (stmts.Bind mutable name ty value) value
  bind_value mutable name ty value =
      part_by _ _ _ _ _ _ _ _ _
      (noted.notes-Bind world answers context listed mutable name ty value)
      (keys.stmt_keys-Bind mutable name ty value) (placed.scoped-Bind mutable name ty value)
      (record {
        share = share_right (var_notes mutable name.at) _ (name.at ∷ []) _ (λ key none.
            var_covers world answers mutable name.at key
            (omega (arith, none, one_key name.at key)));
        within = within_same (expr_scoped value);
      })

  -- the value that is assigned
  pub assign_value : (at : ℕ) (op : AssignOp) (place value : Expr)
      → HasExpr (stmts.Assign at op place value) value
  assign_value at op place value =
      part_by _ _ _ _ _ _ _ _ _ (noted.notes-Assign world answers context listed at op place value)
      (keys.stmt_keys-Assign at op place value) (placed.scoped-Assign at op place value)
      (record {
        share = share_then _ _ _ _ _ _ (share_next at _ (expr_keys place ++ expr_keys value))
            (share_right _ _ (expr_keys place) (expr_keys value)
            (place_covers world answers op place context listed));
        within = within_right (expr_scoped place) (expr_scoped value);
      })

  -- what is noted of the place that is assigned
  abbrev pub place_noted : AssignOp → Expr → List Note
  place_noted op place = place_notes world answers op (see world answers place) context listed

  pub assign_place : (at : ℕ) (op : AssignOp) (place value : Expr)
      → IsPart (stmt_noted (stmts.Assign at op place value))
      (stmt_keys (stmts.Assign at op place value)) (stmt_scoped (stmts.Assign at op place value))
      (place_noted op place) (expr_keys place) (expr_scoped place)
  assign_place at op place value =
      part_by _ _ _ _ _ _ _ _ _ (noted.notes-Assign world answers context listed at op place value)
      (keys.stmt_keys-Assign at op place value) (placed.scoped-Assign at op place value)
      (record {
        share = share_then _ _ _ _ _ _ (share_next at _ (expr_keys place ++ expr_keys value))
            (share_left (place_noted op place) (its_notes value) (expr_keys place)
            (expr_keys value) (expr_covers world answers value context listed));
        within = within_left (expr_scoped place) (expr_scoped value);
      })

  -- by `=` what stands before its last word alone
  abbrev pub before_place : Expr → List Note
  before_place place = (see world answers place).before context listed

  pub set_before : (at : ℕ) (place value : Expr)
      → IsPart (stmt_noted (stmts.Assign at assigns.Set place value))
      (stmt_keys (stmts.Assign at assigns.Set place value))
      (stmt_scoped (stmts.Assign at assigns.Set place value))
      (before_place place) (expr_keys place) (expr_scoped place)
  set_before at place value =
      part_then _ _ _ _ _ _ _ _ _ (assign_place at assigns.Set place value)
      (record {
        share = share_before (before_place place) _ (expr_keys place)
            (stores_bare world answers place context (see world answers place).key);
        within = within_same (expr_scoped place);
      })

  before_base : (base : Expr) (name : Name)
      → IsPart (before_place (exprs.Member base name)) (expr_keys (exprs.Member base name))
      (expr_scoped (exprs.Member base name)) (its_notes base) (expr_keys base) (expr_scoped base)
  before_base base name =
      part_by _ _ _ _ _ _ _ _ _ (noted.before-Member world answers context listed base name)
      (keys.expr_keys-Member base name) (placed.scoped-Member base name)
      (record {
        share = share_next name.at (its_notes base) (expr_keys base);
        within = within_same (expr_scoped base);
      })

  pub set_base : (at : ℕ) (base : Expr) (name : Name) (value : Expr)
      → HasExpr (stmts.Assign at assigns.Set (exprs.Member base name) value) base
  set_base at base name value =
      part_then _ _ _ _ _ _ _ _ _ (set_before at (exprs.Member base name) value)
      (before_base base name)

  -- by another operator the place is read too
  read_place : (place : Expr)
      → IsPart (its_notes place ++ (see world answers place).stores context
      (see world answers place).key) (expr_keys place) (expr_scoped place) (its_notes place)
      (expr_keys place) (expr_scoped place)
  read_place place = record {
    share = share_before (its_notes place) _ (expr_keys place)
        (stores_bare world answers place context (see world answers place).key);
    within = within_same (expr_scoped place);
  }

  pub change_place : (at : ℕ) (op : AssignOp) (place value : Expr) → op ≢ assigns.Set
      → HasExpr (stmts.Assign at op place value) place
  change_place at assigns.Set place value other = absurd (other refl)
  change_place at assigns.Add place value other =
      part_then _ _ _ _ _ _ _ _ _ (assign_place at assigns.Add place value) (read_place place)
  change_place at assigns.Subtract place value other =
      part_then _ _ _ _ _ _ _ _ _ (assign_place at assigns.Subtract place value)
      (read_place place)
  change_place at assigns.Multiply place value other =
      part_then _ _ _ _ _ _ _ _ _ (assign_place at assigns.Multiply place value)
      (read_place place)
  change_place at assigns.Divide place value other =
      part_then _ _ _ _ _ _ _ _ _ (assign_place at assigns.Divide place value) (read_place place)
  change_place at assigns.Remainder place value other =
      part_then _ _ _ _ _ _ _ _ _ (assign_place at assigns.Remainder place value)
      (read_place place)

  pub discard_value : (at : ℕ) (value : Expr) → HasExpr (stmts.Discard at value) value
  discard_value at value =
      part_by _ _ _ _ _ _ _ _ _ (noted.notes-Discard world answers context listed at value)
      (keys.stmt_keys-Discard at value) (placed.scoped-Discard at value)
      (part_next at (its_notes value) (expr_keys value) (expr_scoped value))

  pub return_value : (at : ℕ) (value : Expr) → HasExpr (stmts.Return at (Some value)) value
  return_value at value =
      part_by _ _ _ _ _ _ _ _ _ (noted.notes-Return world answers context listed at value)
      (keys.stmt_keys-Return at (Some value)) (placed.scoped-Return at value)
      (part_next at (its_notes value) (expr_keys value) (expr_scoped value))

  pub plain_value : (value : Expr) → HasExpr (stmts.Plain value) value
  plain_value value =
      part_by _ _ _ _ _ _ _ _ _ (noted.notes-Plain world answers context listed value)
      (keys.stmt_keys-Plain value) (placed.scoped-Plain value)
      (part_same (its_notes value) (expr_keys value) (expr_scoped value))

  -- the condition and the body of a loop
  pub while_cond : (at : ℕ) (cond : Expr) (body : Block)
      → HasExpr (stmts.While at cond body) cond
  while_cond at cond body =
      part_by _ _ _ _ _ _ _ _ _ (noted.notes-While world answers context listed at cond body)
      (keys.stmt_keys-While at cond body) (placed.scoped-While at cond body)
      (part_then _ _ _ _ _ _ _ _ _
      (part_next at _ (expr_keys cond ++ block_keys body) (both (expr_scoped cond) (block_scoped body)))
      (part_left (its_notes cond) _ (expr_keys cond) _ (expr_scoped cond) _
      (block_covers world answers body context listed)))

  pub while_body : (at : ℕ) (cond : Expr) (body : Block)
      → HasBlock (stmts.While at cond body) body
  while_body at cond body =
      part_by _ _ _ _ _ _ _ _ _ (noted.notes-While world answers context listed at cond body)
      (keys.stmt_keys-While at cond body) (placed.scoped-While at cond body)
      (part_then _ _ _ _ _ _ _ _ _
      (part_next at _ (expr_keys cond ++ block_keys body) (both (expr_scoped cond) (block_scoped body)))
      (part_right (its_notes cond) _ (expr_keys cond) _ (expr_scoped cond) _
      (expr_covers world answers cond context listed)))

  -- the arms of an `if`, and its `else`
  pub if_arms : (arms : List IfArm) (otherwise : Option Block)
      → IsPart (stmt_noted (stmts.If arms otherwise)) (stmt_keys (stmts.If arms otherwise))
      (stmt_scoped (stmts.If arms otherwise)) (if_arms_notes world answers arms context listed)
      (joined (map if_arm_keys arms)) (each (map if_arm_scoped arms))
  if_arms arms otherwise =
      part_by _ _ _ _ _ _ _ _ _ (noted.notes-If world answers context listed arms otherwise)
      (keys.stmt_keys-If arms otherwise) (placed.scoped-If arms otherwise)
      (part_left _ _ _ _ _ (otherwise_scoped otherwise) (otherwise_cover otherwise))

  pub if_otherwise : (arms : List IfArm) (body : Block) → HasBlock (stmts.If arms (Some body)) body
  if_otherwise arms body =
      part_by _ _ _ _ _ _ _ _ _ (noted.notes-If world answers context listed arms (Some body))
      (keys.stmt_keys-If arms (Some body)) (placed.scoped-If arms (Some body))
      (part_right _ (its_block body) _ (block_keys body) (each (map if_arm_scoped arms))
      (block_scoped body) (if_arms_cover arms))

  -- the condition and the body of the first arm, and the arms after it
  first_arm : (at : ℕ) (cond : Expr) (body : Block) (arms : List IfArm)
      → IsPart (if_arms_notes world answers (if_arm_of at cond body ∷ arms) context listed)
      (joined (map if_arm_keys (if_arm_of at cond body ∷ arms)))
      (each (map if_arm_scoped (if_arm_of at cond body ∷ arms)))
      (its_notes cond ++ its_block body) (expr_keys cond ++ block_keys body)
      (both (expr_scoped cond) (block_scoped body))
  first_arm at cond body arms =
      part_then _ _ _ _ _ _ _ _ _
      (part_left _ _ _ _ _ (each (map if_arm_scoped arms)) (if_arms_cover arms))
      (part_by _ _ _ _ _ _ _ _ _ (noted.notes-if_arm world answers context listed at cond body)
      (keys.if_arm_keys-roll at cond body) (placed.scoped-if_arm at cond body)
      (part_next at _ (expr_keys cond ++ block_keys body) (both (expr_scoped cond) (block_scoped body))))

  pub if_arm_cond : (at : ℕ) (cond : Expr) (body : Block) (arms : List IfArm)
      → IsPart (if_arms_notes world answers (if_arm_of at cond body ∷ arms) context listed)
      (joined (map if_arm_keys (if_arm_of at cond body ∷ arms)))
      (each (map if_arm_scoped (if_arm_of at cond body ∷ arms)))
      (its_notes cond) (expr_keys cond) (expr_scoped cond)
  if_arm_cond at cond body arms =
      part_then _ _ _ _ _ _ _ _ _ (first_arm at cond body arms)
      (part_left (its_notes cond) _ (expr_keys cond) _ (expr_scoped cond) _
      (block_covers world answers body context listed))

  pub if_arm_body : (at : ℕ) (cond : Expr) (body : Block) (arms : List IfArm)
      → IsPart (if_arms_notes world answers (if_arm_of at cond body ∷ arms) context listed)
      (joined (map if_arm_keys (if_arm_of at cond body ∷ arms)))
      (each (map if_arm_scoped (if_arm_of at cond body ∷ arms)))
      (its_block body) (block_keys body) (block_scoped body)
  if_arm_body at cond body arms =
      part_then _ _ _ _ _ _ _ _ _ (first_arm at cond body arms)
      (part_right (its_notes cond) _ (expr_keys cond) _ (expr_scoped cond) _
      (expr_covers world answers cond context listed))

  pub if_arms_more : (arm : IfArm) (arms : List IfArm)
      → IsPart (if_arms_notes world answers (arm ∷ arms) context listed)
      (joined (map if_arm_keys (arm ∷ arms))) (each (map if_arm_scoped (arm ∷ arms)))
      (if_arms_notes world answers arms context listed) (joined (map if_arm_keys arms))
      (each (map if_arm_scoped arms))
  if_arms_more arm arms =
      part_right _ _ (if_arm_keys arm) _ (if_arm_scoped arm) _
      (if_arm_covers world answers arm context listed)

  -- the subject, the arms and the `default` of a `switch`
  abbrev switch_of : ℕ → Expr → List CaseArm → Option Block → Stmt
  switch_of at subject arms otherwise = stmts.Switch at subject arms otherwise

  switch_front : (at : ℕ) (subject : Expr) (arms : List CaseArm) (otherwise : Option Block)
      → IsPart (stmt_noted (switch_of at subject arms otherwise))
      (stmt_keys (switch_of at subject arms otherwise))
      (stmt_scoped (switch_of at subject arms otherwise))
      (its_notes subject ++ case_arms_notes world answers arms context listed)
      (expr_keys subject ++ joined (map case_arm_keys arms))
      (both (expr_scoped subject) (each (map case_arm_scoped arms)))
  switch_front at subject arms otherwise =
      part_by _ _ _ _ _ _ _ _ _
      (noted.notes-Switch world answers context listed at subject arms otherwise)
      (keys.stmt_keys-Switch at subject arms otherwise)
      (placed.scoped-Switch at subject arms otherwise)
      (part_then _ _ _ _ _ _ _ _ _ (part_next at _ _ _)
      (part_left _ _ (expr_keys subject ++ joined (map case_arm_keys arms)) _
      (both (expr_scoped subject) (each (map case_arm_scoped arms))) _ (otherwise_cover otherwise)))

  pub switch_subject : (at : ℕ) (subject : Expr) (arms : List CaseArm) (otherwise : Option Block)
      → HasExpr (switch_of at subject arms otherwise) subject
  switch_subject at subject arms otherwise =
      part_then _ _ _ _ _ _ _ _ _ (switch_front at subject arms otherwise)
      (part_left (its_notes subject) _ (expr_keys subject) _ (expr_scoped subject) _
      (case_arms_cover arms))

  pub switch_arms : (at : ℕ) (subject : Expr) (arms : List CaseArm) (otherwise : Option Block)
      → IsPart (stmt_noted (switch_of at subject arms otherwise))
      (stmt_keys (switch_of at subject arms otherwise))
      (stmt_scoped (switch_of at subject arms otherwise))
      (case_arms_notes world answers arms context listed) (joined (map case_arm_keys arms))
      (each (map case_arm_scoped arms))
  switch_arms at subject arms otherwise =
      part_then _ _ _ _ _ _ _ _ _ (switch_front at subject arms otherwise)
      (part_right (its_notes subject) _ (expr_keys subject) _ (expr_scoped subject) _
      (expr_covers world answers subject context listed))

  pub switch_otherwise : (at : ℕ) (subject : Expr) (arms : List CaseArm) (body : Block)
      → HasBlock (switch_of at subject arms (Some body)) body
  switch_otherwise at subject arms body =
      part_by _ _ _ _ _ _ _ _ _
      (noted.notes-Switch world answers context listed at subject arms (Some body))
      (keys.stmt_keys-Switch at subject arms (Some body))
      (placed.scoped-Switch at subject arms (Some body))
      (part_then _ _ _ _ _ _ _ _ _ (part_next at _ _ _)
      (part_right _ (its_block body) (expr_keys subject ++ joined (map case_arm_keys arms))
      (block_keys body) (both (expr_scoped subject) (each (map case_arm_scoped arms)))
      (block_scoped body) (λ key none.
      let split = in_all-append hits (expr_keys subject) (joined (map case_arm_keys arms)) key in
      lacks_join _ _ key
      (expr_covers world answers subject context listed key (omega (arith, none, split)))
      (case_arms_cover arms key (omega (arith, none, split))))))

  -- the body of the first arm of a `switch`, and the arms after it
  -- the first arm with its patterns
  pub case_arm_whole : (name : Name) (patterns : List Pattern) (body : Block) (arms : List CaseArm)
      → IsPart
      (case_arms_notes world answers (case_arm_of name patterns body ∷ arms) context listed)
      (joined (map case_arm_keys (case_arm_of name patterns body ∷ arms)))
      (each (map case_arm_scoped (case_arm_of name patterns body ∷ arms)))
      (its_block body) (flat_map pattern_keys patterns ++ block_keys body)
      (declaring (patterns_names patterns) [] (block_scoped body))
  case_arm_whole name patterns body arms =
      part_then _ _ _ _ _ _ _ _ _
      (part_left _ _ _ _ _ (each (map case_arm_scoped arms)) (case_arms_cover arms))
      (part_by _ _ _ _ _ _ _ _ _
      (noted.notes-case_arm world answers context listed name patterns body)
      (keys.case_arm_keys-roll name patterns body) (placed.scoped-case_arm name patterns body)
      (part_same _ _ _))

  pub case_arm_body : (name : Name) (patterns : List Pattern) (body : Block) (arms : List CaseArm)
      → IsPart
      (case_arms_notes world answers (case_arm_of name patterns body ∷ arms) context listed)
      (joined (map case_arm_keys (case_arm_of name patterns body ∷ arms)))
      (each (map case_arm_scoped (case_arm_of name patterns body ∷ arms)))
      (its_block body) (block_keys body)
      (declaring (patterns_names patterns) [] (block_scoped body))
  case_arm_body name patterns body arms =
      part_then _ _ _ _ _ _ _ _ _ (case_arm_whole name patterns body arms)
      (record {
        share = share_right [] (its_block body) (flat_map pattern_keys patterns) (block_keys body)
            (λ key none. lacks_nothing key);
        within = within_same (declaring (patterns_names patterns) [] (block_scoped body));
      })

  pub case_arms_more : (arm : CaseArm) (arms : List CaseArm)
      → IsPart (case_arms_notes world answers (arm ∷ arms) context listed)
      (joined (map case_arm_keys (arm ∷ arms))) (each (map case_arm_scoped (arm ∷ arms)))
      (case_arms_notes world answers arms context listed) (joined (map case_arm_keys arms))
      (each (map case_arm_scoped arms))
  case_arms_more arm arms =
      part_right _ _ (case_arm_keys arm) _ (case_arm_scoped arm) _
      (case_arm_covers world answers arm context listed)

  -- the statements of a block
  pub block_stmts : (list : List Stmt)
      → IsPart (its_block (roll-Block (record { stmts = list })))
      (block_keys (roll-Block (record { stmts = list })))
      (block_scoped (roll-Block (record { stmts = list })))
      (stmts_notes world answers list context listed) (joined (map stmt_keys list))
      (all_scoped list)
  block_stmts list =
      part_by _ _ _ _ _ _ _ _ _ (noted.notes-block world answers context listed list)
      (keys.block_keys-roll list) (placed.scoped-block list) (part_same _ _ _)

  pub stmts_first : (stmt : Stmt) (list : List Stmt)
      → IsPart (stmts_notes world answers (stmt ∷ list) context listed)
      (joined (map stmt_keys (stmt ∷ list))) (all_scoped (stmt ∷ list))
      (stmt_noted stmt) (stmt_keys stmt) (stmt_scoped stmt)
  stmts_first stmt list =
      part_left _ _ _ _ _ (declaring (stmt_stated stmt).names [] (all_scoped list))
      (stmts_cover list)

  pub stmts_more : (stmt : Stmt) (list : List Stmt)
      → IsPart (stmts_notes world answers (stmt ∷ list) context listed)
      (joined (map stmt_keys (stmt ∷ list))) (all_scoped (stmt ∷ list))
      (stmts_notes world answers list context listed) (joined (map stmt_keys list))
      (declaring (stmt_stated stmt).names [] (all_scoped list))
  stmts_more stmt list =
      part_right _ _ (stmt_keys stmt) _ (stmt_scoped stmt) _
      (stmt_covers world answers stmt context listed)
