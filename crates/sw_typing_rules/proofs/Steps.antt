-- What each rule gives where nothing is ill and the parts have types.
use Rattle.std.proofs.Common.{◌≡◌, ℕ, Bool, true, false, not, ◌&&◌, ◌||◌, List, []}
use Rattle.std.proofs.Common.{◌∷◌, ◌++◌, ◌==◌, Option, None, Some, is_some, map, length}
use Rattle.std.proofs.Common.{refl, sym, subst, ◌∙◌, arith, if◌then◌else◌, slice_get, fold}
use Rattle.std.proofs.lemmas.Bool.{false≢true, eqb-true}
use Rattle.std.specs.List.{list_all}
use Rattle.sw_tree.specs.declared.operator.AssignOp.{AssignOp}
use Rattle.sw_tree.specs.declared.operator.InfixOp.{InfixOp}
use Rattle.sw_tree.specs.declared.operator.PrefixOp.{PrefixOp}
use Rattle.sw_tree.specs.declared.operator.PrefixOp.TheVariants as prefix_of
use Rattle.sw_tree.specs.declared.stmt.Pattern.{Pattern}
use Rattle.sw_tree.specs.declared.stmt.Pattern.TheVariants.{Skip, Let}
use Rattle.sw_types.specs.declared.shape.CaseShape.{CaseShape}
use Rattle.sw_types.specs.declared.shape.Part.{Part}
use Rattle.sw_types.specs.declared.shape.Shape.{Shape}
use Rattle.sw_types.specs.declared.shape.ShapeKind.{ShapeKind}
use Rattle.sw_types.specs.declared.shape.ShapeKind.TheVariants as kind
use Rattle.sw_types.specs.declared.ty.Ty.{Ty, out-Ty}
use Rattle.sw_types.specs.declared.ty.Ty.TheOpen as layer
use Rattle.sw_decl_words.specs.declared.members.Member.{Member}
use Rattle.sw_decl_words.specs.declared.members.Role.{Role}
use Rattle.sw_decl_words.specs.declared.members.Role.TheVariants as role
use Rattle.sw_decl_words.specs.declared.words.Meaning as words
use Rattle.sw_decl_words.specs.declared.words.Meaning.TheVariants as word
use Rattle.sw_decls.specs.declared.signature.GlobalVar.{GlobalVar}
use Rattle.sw_decls.specs.declared.signature.Signature.{Signature}
use Rattle.sw_typing_rules.specs.Calls as calls
use Rattle.sw_typing_rules.specs.Calls.{Callee, Takes, Untyped, Prints, Uncallable, Slot}
use Rattle.sw_typing_rules.specs.declared.verdict.Given.{Given}
use Rattle.sw_typing_rules.specs.Fits.{fits}
use Rattle.sw_typing_rules.specs.Operators.{infix_types, prefix_types, takes, gives, sort_of}
use Rattle.sw_typing_rules.specs.Operators.{assigns}
use Rattle.sw_typing_rules.specs.Statements as stmts
use Rattle.sw_typing_rules.specs.Statements.{State, Left, Head}
use Rattle.sw_typing_rules.specs.Typedness.{vars_typed, returned_typed}
use Rattle.sw_typing_rules.specs.Verdicts.{type_in, rows_of, ill_if, ill_unless}
use Rattle.sw_typing_rules.specs.declared.verdict.Verdict.{Verdict}
use Rattle.sw_typing_rules.specs.declared.verdict.Verdict.TheVariants.{Has, Fails, Held}
use Rattle.sw_typing_rules.specs.Verdicts.{all_well, is_well, is_accepted, is_bool, is_int, is_unit}
use Rattle.sw_typing_rules.specs.Words as senses
use Rattle.sw_typing_rules.specs.Words.{Sense, Variable, OwnProperty, OwnMethod, OwnCase, Top}
use Rattle.sw_typing_rules.specs.Words.{Printing, Nothing}
use Rattle.sw_typing_rules.specs.declared.found.Found.{Found}
use Rattle.sw_typing_rules.specs.declared.found.Found.TheVariants.{Property, Method, Result}
use Rattle.sw_typing_rules.specs.declared.found.Found.TheVariants.{NoMember}
use Rattle.sw_typing_rules.specs.Words.{Setting, sense, local, local_sense, member_sense, top_sense}
use Rattle.sw_typing_rules.specs.Words.{role_sense, word_types, found_types, part_types}
use Rattle.sw_typing_rules.specs.Words.{global_types}
use Rattle.sw_typing_rules.specs.Worlds.{World, part_at, case_at, and_then}
use Rattle.sw_typing_rules.specs.declared.row.Meaning.{Meaning}
use Rattle.sw_typing_rules.specs.declared.row.Row.{Row}
use Rattle.sw_typing_rules.specs.declared.row.Row.TheVariants.{Ill}
use Rattle.sw_typing_rules.specs.declared.scope.Returned.{Returned}
use Rattle.sw_typing_rules.specs.declared.scope.Returned.TheVariants.{Wants, Open, Gives}
use Rattle.sw_typing_rules.specs.declared.scope.Var.{Var}

pub and_both : (a b : Bool) → a ≡ true → b ≡ true → (a && b) ≡ true
and_both true b p q = q
and_both false b p q = p

pub and_left : (a b : Bool) → (a && b) ≡ true → a ≡ true
and_left true b e = refl
and_left false b e = e

pub and_right : (a b : Bool) → (a && b) ≡ true → b ≡ true
and_right true b e = e
and_right false b e = absurd (false≢true e)

pub not_false : (b : Bool) → not b ≡ false → b ≡ true
not_false true e = refl
not_false false e = sym e

pub if_some : {A : Type 0} (b : Bool) (x : Option A) → b ≡ true → is_some x ≡ true
    → is_some (if b then x else None) ≡ true
if_some true x e h = h
if_some false x e h = e

pub else_some : {A : Type 0} (b : Bool) (x : Option A) → b ≡ false → is_some x ≡ true
    → is_some (if b then None else x) ≡ true
else_some true x e h = sym e
else_some false x e h = h

pub well_left : (a b : List Row) → all_well (a ++ b) ≡ true → all_well a ≡ true
well_left [] b e = refl
well_left (row ∷ a) b e =
    and_both (is_well row) (all_well a) (and_left (is_well row) (all_well (a ++ b)) e)
    (well_left a b (and_right (is_well row) (all_well (a ++ b)) e))

pub well_right : (a b : List Row) → all_well (a ++ b) ≡ true → all_well b ≡ true
well_right [] b e = e
well_right (row ∷ a) b e = well_right a b (and_right (is_well row) (all_well (a ++ b)) e)

pub well_both : (a b : List Row) → all_well a ≡ true → all_well b ≡ true → all_well (a ++ b) ≡ true
well_both [] b p q = q
well_both (row ∷ a) b p q =
    and_both (is_well row) (all_well (a ++ b)) (and_left (is_well row) (all_well a) p)
    (well_both a b (and_right (is_well row) (all_well a) p) q)

pub not_ill_unless : (b : Bool) (at code : ℕ) (unless : Option ℕ)
    → all_well (ill_unless b at code unless) ≡ true → b ≡ false
not_ill_unless true at code unless e = sym e
not_ill_unless false at code unless e = refl

pub not_ill : (b : Bool) (at code : ℕ) → all_well (ill_if b at code) ≡ true → b ≡ false
not_ill b at code e = not_ill_unless b at code None e

abbrev pub is_held : Verdict → Bool
is_held (Has ty) = false
is_held (Fails code) = false
is_held Held = true

pub settled : (at : ℕ) (v : Verdict) → is_held v ≡ false → all_well (rows_of at v) ≡ true
    → is_some (type_in v) ≡ true
settled at (Has ty) h e = refl
settled at (Fails code) h e = e
settled at Held h e = sym h

held_if : (b : Bool) (ty : Ty) (code : ℕ) → is_held (if b then Has ty else Fails code) ≡ false
held_if true ty code = refl
held_if false ty code = refl

pub infix_held : (op : InfixOp) (l r : Option Ty) → is_some l ≡ true → is_some r ≡ true
    → is_held (infix_types op l r) ≡ false
infix_held op None r p q = absurd (false≢true p)
infix_held op (Some l) None p q = absurd (false≢true q)
infix_held op (Some l) (Some r) p q = held_if (takes (sort_of op) l r) (gives (sort_of op)) 402

pub prefix_held : (op : PrefixOp) (o : Option Ty) → is_some o ≡ true
    → is_held (prefix_types op o) ≡ false
prefix_held op None p = absurd (false≢true p)
prefix_held prefix_of.Not (Some ty) p = held_if (is_bool ty) _ 402
prefix_held prefix_of.Negate (Some ty) p = held_if (is_int ty) _ 402

pub var_held : (o : Option Ty) → is_some o ≡ true → is_held (senses.var_types o) ≡ false
var_held None p = absurd (false≢true p)
var_held (Some ty) p = refl

pub me_held : (o : Option ℕ) → is_held (senses.me_types o) ≡ false
me_held None = refl
me_held (Some shape) = refl

part_held : (o : Option Part) (code : ℕ) → is_held (part_types o code) ≡ false
part_held None code = refl
part_held (Some part) code = refl

global_held : (o : Option GlobalVar) → is_held (global_types o) ≡ false
global_held None = refl
global_held (Some global) = refl

-- a variable that is found has a type
abbrev pub var_ok : Option Var → Bool
var_ok None = true
var_ok (Some one) = is_some one.ty

ok_if : (b : Bool) (one : Var) (found : Option Var) → is_some one.ty ≡ true → var_ok found ≡ true
    → var_ok (if b then Some one else found) ≡ true
ok_if true one found p q = p
ok_if false one found p q = q

local_ok_from : (id : ℕ) (found : Option Var) (vars : List Var) → var_ok found ≡ true
    → vars_typed vars ≡ true
    → var_ok (fold (λ found (one : Var). if one.name == id then Some one else found) found vars)
    ≡ true
local_ok_from id found [] p q = p
local_ok_from id found (one ∷ vars) p q =
    local_ok_from id (if one.name == id then Some one else found) vars
    (ok_if (one.name == id) one found (and_left (is_some one.ty) (vars_typed vars) q) p)
    (and_right (is_some one.ty) (vars_typed vars) q)

pub local_ok : (vars : List Var) (id : ℕ) → vars_typed vars ≡ true → var_ok (local vars id) ≡ true
local_ok vars id q = local_ok_from id None vars refl q

module _ (world : World) where
  top_held : (t : words.Meaning) → is_held (senses.top_types world t) ≡ false
  top_held (word.Shape kind number) = refl
  top_held (word.GlobalActor number) = refl
  top_held (word.Func key) = refl
  top_held (word.Global number) = global_held (slice_get world.globals number)
  top_held word.Entry = refl

  -- a sense that isn't that of a variable without a type
  abbrev pub sense_ok : Sense → Bool
  sense_ok (Variable one) = is_some one.ty
  sense_ok (OwnProperty shape number) = true
  sense_ok (OwnMethod key) = true
  sense_ok OwnCase = true
  sense_ok (Top t) = true
  sense_ok Printing = true
  sense_ok Nothing = true

  pub word_held : (m : Sense) → sense_ok m ≡ true → is_held (word_types world m) ≡ false
  word_held (Variable one) e = var_held one.ty e
  word_held (OwnProperty shape number) e = part_held (part_at world shape number) 401
  word_held (OwnMethod key) e = refl
  word_held OwnCase e = refl
  word_held (Top t) e = top_held t
  word_held Printing e = refl
  word_held Nothing e = refl

  role_ok : (shape at : ℕ) (r : Role) → sense_ok (role_sense shape at r) ≡ true
  role_ok shape at (role.Part number) = refl
  role_ok shape at (role.Case number) = refl
  role_ok shape at role.Method = refl

  printing_ok : (b : Bool) → sense_ok (if b then Printing else Nothing) ≡ true
  printing_ok true = refl
  printing_ok false = refl

  top_ok : (t : Option words.Meaning) (id : ℕ) → sense_ok (top_sense t id) ≡ true
  top_ok None id = printing_ok (id == 7)
  top_ok (Some t) id = refl

  member_ok : (owner : Option ℕ) (m : Option Member) (t : Option words.Meaning) (id : ℕ)
      → sense_ok (member_sense owner m (top_sense t id)) ≡ true
  member_ok None m t id = top_ok t id
  member_ok (Some shape) None t id = top_ok t id
  member_ok (Some shape) (Some m) t id = role_ok shape m.word.at m.role

  local_sense_ok : (o : Option Var) (m : Sense) → var_ok o ≡ true → sense_ok m ≡ true
      → sense_ok (local_sense o m) ≡ true
  local_sense_ok None m p q = q
  local_sense_ok (Some one) m p q = p

  pub sensed_ok : (s : Setting) (id : ℕ) → vars_typed s.vars ≡ true
      → sense_ok (sense world s id) ≡ true
  sensed_ok s id q = local_sense_ok (local s.vars id) _ (local_ok s.vars id q)
      (member_ok s.owner (senses.owned world s.owner id) (world.known.top id) id)

  pub found_held : (f : Found) → is_held (found_types world f) ≡ false
  found_held (Property shape number) = part_held (part_at world shape number) 407
  found_held (Method key) = refl
  found_held (Result ty) = refl
  found_held NoMember = refl

  payload_held : (shape : ℕ) (tys : List Ty) → is_held (calls.payload_types shape tys) ≡ false
  payload_held shape [] = refl
  payload_held shape (ty ∷ tys) = refl

  case_held : (shape : ℕ) (o : Option CaseShape) → is_held (calls.case_types shape o) ≡ false
  case_held shape None = refl
  case_held shape (Some one) = payload_held shape one.payload

  pub enum_held : (shape : ℕ) (n : Option ℕ) → is_held (calls.enum_types world shape n) ≡ false
  enum_held shape None = refl
  enum_held shape (Some number) = case_held shape (case_at world shape number)

  -- what is called has a type
  abbrev pub callee_ok : Callee → Bool
  callee_ok (Takes meaning slots result) = true
  callee_ok (Untyped meaning) = false
  callee_ok Prints = true
  callee_ok (Uncallable code) = true

  value_layer_ok : (meaning : Meaning) (code : ℕ) (l : layer.Ty-F Ty)
      → callee_ok (calls.value_layer meaning code l) ≡ true
  value_layer_ok meaning code layer.Int = refl
  value_layer_ok meaning code layer.Bool = refl
  value_layer_ok meaning code layer.Unit = refl
  value_layer_ok meaning code (layer.Named shape) = refl
  value_layer_ok meaning code (layer.Func marked params result) = refl
  value_layer_ok meaning code (layer.Task inner) = refl

  variable_ok : (meaning : Meaning) (o : Option Ty) → is_some o ≡ true
      → callee_ok (calls.variable_callee meaning o) ≡ true
  variable_ok meaning None p = p
  variable_ok meaning (Some ty) p = value_layer_ok meaning 401 (out-Ty ty)

  part_ok : (meaning : Meaning) (code : ℕ) (o : Option Part)
      → callee_ok (calls.part_callee meaning code o) ≡ true
  part_ok meaning code None = refl
  part_ok meaning code (Some part) = value_layer_ok meaning code (out-Ty part.ty)

  global_ok : (meaning : Meaning) (o : Option GlobalVar)
      → callee_ok (calls.global_callee meaning o) ≡ true
  global_ok meaning None = refl
  global_ok meaning (Some global) = value_layer_ok meaning 401 (out-Ty global.ty)

  signature_ok : (meaning : Meaning) (code : ℕ) (o : Option Signature)
      → callee_ok (calls.signature_callee meaning code o) ≡ true
  signature_ok meaning code None = refl
  signature_ok meaning code (Some func) = refl

  func_ok : (meaning : ℕ → Meaning) (code : ℕ) (o : Option ℕ)
      → callee_ok (calls.func_callee world meaning code o) ≡ true
  func_ok meaning code None = refl
  func_ok meaning code (Some number) =
      signature_ok (meaning number) code (slice_get world.funcs number)

  struct_ok : (number : ℕ) (o : Option Shape) → callee_ok (calls.struct_callee number o) ≡ true
  struct_ok number None = refl
  struct_ok number (Some shape) = refl

  make_ok : (k : ShapeKind) (number : ℕ) → callee_ok (calls.make_callee world k number) ≡ true
  make_ok kind.Struct number = struct_ok number (slice_get world.shapes number)
  make_ok kind.Enum number = refl
  make_ok kind.Class number = func_ok _ 401 (and_then (slice_get world.makers number) world.numbers)
  make_ok kind.Actor number = func_ok _ 401 (and_then (slice_get world.makers number) world.numbers)

  top_callee_ok : (t : words.Meaning) → callee_ok (calls.top_callee world t) ≡ true
  top_callee_ok (word.Shape made number) = make_ok made number
  top_callee_ok (word.GlobalActor number) = refl
  top_callee_ok (word.Func key) = func_ok _ 401 (world.numbers key)
  top_callee_ok (word.Global number) = global_ok _ (slice_get world.globals number)
  top_callee_ok word.Entry = refl

  pub word_callee_ok : (m : Sense) → sense_ok m ≡ true
      → callee_ok (calls.word_callee world m) ≡ true
  word_callee_ok (Variable one) e = variable_ok _ one.ty e
  word_callee_ok (OwnProperty shape number) e = part_ok _ 401 (part_at world shape number)
  word_callee_ok (OwnMethod key) e = func_ok _ 401 (world.numbers key)
  word_callee_ok OwnCase e = refl
  word_callee_ok (Top t) e = top_callee_ok t
  word_callee_ok Printing e = refl
  word_callee_ok Nothing e = refl

  pub found_callee_ok : (f : Found) → callee_ok (calls.found_callee world f) ≡ true
  found_callee_ok (Property shape number) = part_ok _ 407 (part_at world shape number)
  found_callee_ok (Method key) = func_ok _ 407 (world.numbers key)
  found_callee_ok (Result ty) = refl
  found_callee_ok NoMember = refl

  payload_ok : (shape number : ℕ) (tys : List Ty)
      → callee_ok (calls.payload_callee shape number tys) ≡ true
  payload_ok shape number [] = refl
  payload_ok shape number (ty ∷ tys) = refl

  case_ok : (shape number : ℕ) (o : Option CaseShape)
      → callee_ok (calls.case_callee shape number o) ≡ true
  case_ok shape number None = refl
  case_ok shape number (Some one) = payload_ok shape number one.payload

  pub enum_ok : (shape : ℕ) (n : Option ℕ) → callee_ok (calls.enum_callee world shape n) ≡ true
  enum_ok shape None = refl
  enum_ok shape (Some number) = case_ok shape number (case_at world shape number)

  held_ifs : (a b : Bool) (c d : ℕ) (ty : Ty)
      → is_held (if a then (if b then Has ty else Fails c) else Fails d) ≡ false
  held_ifs true b c d ty = held_if b ty c
  held_ifs false b c d ty = refl

  held_else : (a b : Bool) (c d : ℕ) (ty : Ty)
      → is_held (if a then Fails d else (if b then Has ty else Fails c)) ≡ false
  held_else true b c d ty = refl
  held_else false b c d ty = held_if b ty c

  called_held : (callee : Callee) (given : List Given) → callee_ok callee ≡ true
      → is_held (calls.called callee given) ≡ false
  called_held (Takes meaning slots result) given e =
      held_ifs (calls.labels_fit slots given) (calls.types_fit slots given) 402 403 result
  called_held (Untyped meaning) given e = absurd (false≢true e)
  called_held Prints given e =
      held_else _ (list_all (λ (one : Given). calls.printable_type one.ty) given) 402 403 _
  called_held (Uncallable code) given e = refl

  typed_held : (b : Bool) (v : Verdict) → b ≡ true → is_held v ≡ false
      → is_held (if b then v else Held) ≡ false
  typed_held true v p q = q
  typed_held false v p q = absurd (false≢true p)

  pub call_held : (callee : Callee) (given : List Given) → callee_ok callee ≡ true
      → calls.all_typed given ≡ true → is_held (calls.call_types callee given) ≡ false
  call_held callee given e p =
      typed_held (calls.all_typed given) (calls.called callee given) p (called_held callee given e)

pub vars_append : (vars more : List Var) → vars_typed vars ≡ true → vars_typed more ≡ true
    → vars_typed (vars ++ more) ≡ true
vars_append [] more p q = q
vars_append (one ∷ vars) more p q =
    and_both (is_some one.ty) (vars_typed (vars ++ more))
    (and_left (is_some one.ty) (vars_typed vars) p)
    (vars_append vars more (and_right (is_some one.ty) (vars_typed vars) p) q)

pub one_typed : (one : Var) → is_some one.ty ≡ true → vars_typed (one ∷ []) ≡ true
one_typed one e = and_both (is_some one.ty) true e refl

pub accepted : (o : Option Ty) (w : Ty) (at : ℕ) → is_some o ≡ true
    → all_well (stmts.refused at o w) ≡ true → is_accepted o w ≡ true
accepted None w at p q = p
accepted (Some ty) w at p q = not_false (fits ty w) (not_ill (not (fits ty w)) at 402 q)

pub assigned : (op : AssignOp) (p v : Option Ty) (at : ℕ) → is_some p ≡ true → is_some v ≡ true
    → all_well (stmts.misassigned op at p v) ≡ true → stmts.assigned op p v ≡ true
assigned op None v at p q w = p
assigned op (Some p) None at e q w = q
assigned op (Some p) (Some v) at e q w =
    not_false (assigns op p v) (not_ill (not (assigns op p v)) at 402 w)

pub condition : (o : Option Ty) (key : ℕ) → is_some o ≡ true
    → all_well (ill_if (is_some o && not (stmts.is_condition o)) key 402) ≡ true
    → stmts.is_condition o ≡ true
condition None key p q = p
condition (Some ty) key p q = not_false (is_bool ty) (not_ill (not (is_bool ty)) key 402 q)

all_ill : (u : Bool) (at : ℕ) (places : List ℕ)
    → all_well (if u then [] else map (λ at. Ill at 402 None) (at ∷ places)) ≡ true → u ≡ true
all_ill true at places e = refl
all_ill false at places e = e

pub no_bare : (places : List ℕ) (o : Option Ty) → is_some o ≡ true
    → all_well (stmts.bare_rows places o) ≡ true → stmts.no_bare places o ≡ true
no_bare places None p q = p
no_bare [] (Some ty) p q = refl
no_bare (at ∷ places) (Some ty) p q = all_ill (is_unit ty) at places q

pub body_result_some : (r : Returned) → returned_typed r ≡ true
    → is_some (stmts.body_result r) ≡ true
body_result_some (Wants ty) e = refl
body_result_some (Open places) e = refl
body_result_some (Gives ty) e = e

pub switch_ok : (x y f : Bool) → x ≡ true → y ≡ true → (x && (y && not f)) ≡ false → f ≡ true
switch_ok true true f p q e = not_false f e
switch_ok true false f p q e = absurd (false≢true q)
switch_ok false y f p q e = absurd (false≢true p)

pub fits_heads : (cases : Option (List CaseShape)) (heads : List Head) (b : Bool)
    → stmts.switch_fits cases heads b ≡ true → stmts.heads_fit cases heads ≡ true
fits_heads None heads b e = absurd (false≢true e)
fits_heads (Some cases) heads b e = and_left (stmts.heads_fit (Some cases) heads) _ e

pattern_typed : (ps : List Pattern) (tys : List Ty) → length ps ≡ length tys
    → vars_typed (stmts.pattern_vars ps tys) ≡ true
pattern_typed [] tys e = refl
pattern_typed (p ∷ ps) [] e = absurd (omega (arith, e))
pattern_typed (Skip at ∷ ps) (ty ∷ tys) e = pattern_typed ps tys (omega (arith, e))
pattern_typed (Let name ∷ ps) (ty ∷ tys) e = pattern_typed ps tys (omega (arith, e))

or_right : (a b : Bool) → (a ≡ true → b ≡ true) → (a || b) ≡ true → b ≡ true
or_right true b f e = f refl
or_right false b f e = e

types_if : (p : Pattern) (ps : List Pattern) (tys : List Ty) (b : Bool)
    → (length (p ∷ ps) == length tys) ≡ b → b ≡ true
    → vars_typed (stmts.pattern_vars (p ∷ ps)
    (if length (p ∷ ps) == length tys then tys else [])) ≡ true
types_if p ps tys b is so =
    subst (λ c. vars_typed (stmts.pattern_vars (p ∷ ps) (if c then tys else [])) ≡ true)
    (sym (is ∙ so))
    (pattern_typed (p ∷ ps) tys (eqb-true (length (p ∷ ps)) (length tys) (is ∙ so)))

pub arms_typed : (ps : List Pattern) (payload : Option (List Ty))
    → stmts.patterns_fit ps payload ≡ true
    → vars_typed (stmts.pattern_vars ps (stmts.pattern_types ps payload)) ≡ true
arms_typed ps None e = absurd (false≢true e)
arms_typed [] (Some payload) e = refl
arms_typed (p ∷ ps) (Some payload) e =
    types_if p ps payload (length (p ∷ ps) == length payload) refl
    (or_right (length (p ∷ ps) == 0) (length (p ∷ ps) == length payload)
    (λ zero. absurd (let none = eqb-true (length (p ∷ ps)) 0 zero in omega (arith, none))) e)
