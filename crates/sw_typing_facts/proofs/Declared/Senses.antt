-- The rules of words and of members: the types that they give are declared.
use Rattle.std.proofs.Common.{ℕ, Bool, true, false, List, [], ◌∷◌, Option, Some, None, slice_get}
use Rattle.std.proofs.Common.{fold, if◌then◌else◌, ◌==◌}
use Rattle.std.specs.Prelude.{IfSome}
use Rattle.sw_tree.specs.declared.name.Name.{Name}
use Rattle.sw_types.specs.declared.ty.Ty.{Ty, out-Ty}
use Rattle.sw_types.specs.declared.ty.Ty.TheOpen as layer
use Rattle.sw_decl_words.specs.declared.members.Member.{Member}
use Rattle.sw_decl_words.specs.declared.members.Role.{Role}
use Rattle.sw_decl_words.specs.declared.members.Role.TheVariants as role
use Rattle.sw_decl_words.specs.declared.words.Meaning as words
use Rattle.sw_decl_words.specs.declared.words.Meaning.TheVariants as word
use Rattle.sw_typing_rules.specs.Calls as calls
use Rattle.sw_typing_rules.specs.Expressions as exps
use Rattle.sw_typing_rules.specs.Expressions.{Judged}
use Rattle.sw_typing_rules.specs.Verdicts.{meaning_rows}
use Rattle.sw_typing_rules.specs.Words as senses
use Rattle.sw_typing_rules.specs.Words.{Nothing, OwnCase, OwnMethod, OwnProperty, Printing, Sense}
use Rattle.sw_typing_rules.specs.Words.{Setting, Top, Variable}
use Rattle.sw_typing_rules.specs.Worlds.{World, case_at, part_at}
use Rattle.sw_typing_rules.specs.declared.found.Found.{Found}
use Rattle.sw_typing_rules.specs.declared.found.Found.TheVariants.{Method, NoMember, Property}
use Rattle.sw_typing_rules.specs.declared.found.Found.TheVariants.{Result}
use Rattle.sw_typing_rules.specs.declared.scope.Var.{Var}
use Rattle.sw_typing_rules.specs.declared.verdict.Verdict.TheVariants.{Held}
use Rattle.sw_typing_facts.proofs.Declared.Lookups.{case_below, global_is, part_is}
use Rattle.sw_typing_facts.proofs.Declared.Noted.{JudgedWithin, RowsWithin, VarWithin, VarsWithin}
use Rattle.sw_typing_facts.proofs.Declared.Noted.{join, meanings, size}
use Rattle.sw_typing_facts.proofs.Declared.Tables.{TablesWithin}
use Rattle.sw_typing_facts.proofs.Declared.Verdicts.{VerdictWithin, case_types, global_types, noted}
use Rattle.sw_typing_facts.proofs.Declared.Verdicts.{part_types, var_types, verdict, verdict_type}
use Rattle.sw_typing_facts.proofs.Types.Within.{IfWithin, LayerWithin, Within, out_within}

-- the type of a variable that a word means
abbrev pub SenseWithin : ℕ → Sense → Type 0
SenseWithin n (Variable one) = VarWithin n one
SenseWithin n (OwnProperty shape number) = Unit {0}
SenseWithin n (OwnMethod key) = Unit {0}
SenseWithin n OwnCase = Unit {0}
SenseWithin n (Top meaning) = Unit {0}
SenseWithin n Printing = Unit {0}
SenseWithin n Nothing = Unit {0}

-- the result of a task that a name means
abbrev FoundWithin : ℕ → Found → Type 0
FoundWithin n (Property shape number) = Unit {0}
FoundWithin n (Method key) = Unit {0}
FoundWithin n (Result ty) = Within n ty
FoundWithin n NoMember = Unit {0}

module _ (n : ℕ) where
  -- variables

  found_or : (test : Bool) (one : Var) (found : Option Var) → VarWithin n one
      → IfSome found (VarWithin n) → IfSome (if test then Some one else found) (VarWithin n)
  found_or true one found is are = is
  found_or false one found is are = are

  local_from : (id : ℕ) (found : Option Var) (vars : List Var) → IfSome found (VarWithin n)
      → VarsWithin n vars
      → IfSome (fold (λ found (one : Var). if one.name == id then Some one else found) found vars)
      (VarWithin n)
  local_from id found [] is are = is
  local_from id found (one ∷ vars) is are =
      local_from id (if one.name == id then Some one else found) vars
      (found_or (one.name == id) one found are.0 is) are.1

  pub local : (vars : List Var) (id : ℕ) → VarsWithin n vars
      → IfSome (senses.local vars id) (VarWithin n)
  local vars id are = local_from id None vars tt are

  role_sense : (shape at : ℕ) (is : Role) → SenseWithin n (senses.role_sense shape at is)
  role_sense shape at (role.Part number) = tt
  role_sense shape at (role.Case number) = tt
  role_sense shape at role.Method = tt

  print_sense : (test : Bool) → SenseWithin n (if test then Printing else Nothing)
  print_sense true = tt
  print_sense false = tt

  top_sense : (meaning : Option words.Meaning) (id : ℕ)
      → SenseWithin n (senses.top_sense meaning id)
  top_sense None id = print_sense (id == 7)
  top_sense (Some meaning) id = tt

  member_sense : (owner : Option ℕ) (member : Option Member) (meaning : Option words.Meaning)
      (id : ℕ) → SenseWithin n (senses.member_sense owner member (senses.top_sense meaning id))
  member_sense None member meaning id = top_sense meaning id
  member_sense (Some shape) None meaning id = top_sense meaning id
  member_sense (Some shape) (Some member) meaning id =
      role_sense shape member.word.at member.role

  local_sense : (one : Option Var) (other : Sense) → IfSome one (VarWithin n)
      → SenseWithin n other → SenseWithin n (senses.local_sense one other)
  local_sense None other is more = more
  local_sense (Some one) other is more = is

module _ (world : World) (tables : TablesWithin world) where
  -- words

  top_types : (meaning : words.Meaning)
      → VerdictWithin (size world) (senses.top_types world meaning)
  top_types (word.Shape made number) = tt
  top_types (word.GlobalActor number) = tt
  top_types (word.Func key) = tt
  top_types (word.Global number) =
      global_types (size world) (slice_get world.globals number) (global_is world tables number)
  top_types word.Entry = tt

  word_types : (sense : Sense) → SenseWithin (size world) sense
      → VerdictWithin (size world) (senses.word_types world sense)
  word_types (Variable one) is = var_types (size world) one.ty is
  word_types (OwnProperty shape number) is =
      part_types (size world) (part_at world shape number) 401 (part_is world tables shape number)
  word_types (OwnMethod key) is = tt
  word_types OwnCase is = tt
  word_types (Top meaning) is = top_types meaning
  word_types Printing is = tt
  word_types Nothing is = tt

  pub sensed : (setting : Setting) (id : ℕ) → VarsWithin (size world) setting.vars
      → SenseWithin (size world) (senses.sense world setting id)
  sensed setting id are =
      local_sense (size world) (senses.local setting.vars id) _
      (local (size world) setting.vars id are)
      (member_sense (size world) setting.owner (senses.owned world setting.owner id)
      (world.known.top id) id)

  -- a word
  pub word_of : (setting : Setting) (name : Name) → VarsWithin (size world) setting.vars
      → JudgedWithin (size world) (exps.word_judged world setting name)
  word_of setting name are =
      let sense = senses.sense world setting name.id in
      let is = word_types sense (sensed setting name.id are) in (
        verdict_type (size world) (senses.word_types world sense) is,
        join (size world) (meaning_rows name.at (senses.word_meaning sense)) _
            (meanings (size world) name.at (senses.word_meaning sense))
            (verdict (size world) name.at (senses.word_types world sense) is),
      )

  -- members

  found_form : (form : layer.Ty-F Ty) (id : ℕ) → LayerWithin (size world) form
      → FoundWithin (size world) (senses.found_layer world form id)
  found_form layer.Int id is = tt
  found_form layer.Bool id is = tt
  found_form layer.Unit id is = tt
  found_form (layer.Named shape) id is = of_member (world.known.members shape id) where
    of_role : (at : ℕ) (is : Role) → FoundWithin (size world) (senses.role_found shape at is)
    of_role at (role.Part number) = tt
    of_role at (role.Case number) = tt
    of_role at role.Method = tt

    of_member : (member : Option Member)
        → FoundWithin (size world) (senses.member_found shape member)
    of_member None = tt
    of_member (Some member) = of_role member.word.at member.role
  found_form (layer.Func marked params result) id is = tt
  found_form (layer.Task inner) id is = by (id == 8) where
    by : (test : Bool) → FoundWithin (size world) (if test then Result inner else NoMember)
    by true = is
    by false = tt

  found_in : (ty : Ty) (id : ℕ) → Within (size world) ty
      → FoundWithin (size world) (senses.found_in world ty id)
  found_in ty id is = found_form (out-Ty ty) id (out_within (size world) ty is)

  found_types : (found : Found) → FoundWithin (size world) found
      → VerdictWithin (size world) (senses.found_types world found)
  found_types (Property shape number) is =
      part_types (size world) (part_at world shape number) 407 (part_is world tables shape number)
  found_types (Method key) is = tt
  found_types (Result ty) is = is
  found_types NoMember is = tt

  enum_types : (shape : ℕ) (number : Option ℕ)
      → VerdictWithin (size world) (calls.enum_types world shape number)
  enum_types shape None = tt
  enum_types shape (Some number) =
      case_types (size world) shape (case_at world shape number)
      (case_below world tables shape number)

  value_member : (base : Judged) (ty : Option Ty) (name : Name) → IfWithin (size world) ty
      → RowsWithin (size world) base.rows
      → JudgedWithin (size world) (exps.value_member world base ty name)
  value_member base None name is are = noted (size world) name.at Held base.rows are tt
  value_member base (Some ty) name is are =
      let found = senses.found_in world ty name.id in
      let says = found_types found (found_in ty name.id is) in (
        verdict_type (size world) (senses.found_types world found) says,
        join (size world) base.rows _ are
            (join (size world) (meaning_rows name.at (senses.found_meaning found)) _
            (meanings (size world) name.at (senses.found_meaning found))
            (verdict (size world) name.at (senses.found_types world found) says)),
      )

  -- a member of a value or of an enum
  pub member_by : (base : Judged) (enum : Option ℕ) (name : Name)
      → JudgedWithin (size world) base
      → JudgedWithin (size world) (exps.member_by world base enum name)
  member_by base None name are = value_member base base.ty name are.0 are.1
  member_by base (Some shape) name are =
      let number = calls.case_in world shape name.id in
      noted (size world) name.at (calls.enum_types world shape number)
      (meaning_rows name.at (calls.case_meaning shape number))
      (meanings (size world) name.at (calls.case_meaning shape number)) (enum_types shape number)
