-- Words mention variables that are seen.
use Rattle.std.proofs.Common.{◌≡◌, ℕ, Bool, true, false, List, [], ◌∷◌, ◌++◌, Option, Some, None}
use Rattle.std.proofs.Common.{Contains, ap, refl, sym, ◌∙◌, subst, is_some}
use Rattle.std.proofs.lemmas.Bool.{false≢true}
use Rattle.std.proofs.lemmas.Option.{same_Some}
use Rattle.std.specs.List.{AllByRecursion}
use Rattle.std.specs.Prelude.{◌==◌, if◌then◌else◌, map, slice_get}
use Rattle.sw_tree.specs.declared.name.Name.{Name}
use Rattle.sw_types.specs.declared.shape.Part.{Part}
use Rattle.sw_types.specs.declared.shape.Shape.{Shape}
use Rattle.sw_types.specs.declared.shape.ShapeKind.{ShapeKind}
use Rattle.sw_types.specs.declared.shape.ShapeKind.TheVariants as kind
use Rattle.sw_types.specs.declared.ty.Ty.{Ty, out-Ty}
use Rattle.sw_types.specs.declared.ty.Ty.TheOpen as layer
use Rattle.sw_decl_words.specs.declared.members.Member.{Member}
use Rattle.sw_decl_words.specs.declared.members.Role.{Role}
use Rattle.sw_decl_words.specs.declared.members.Role.TheVariants as role
use Rattle.sw_decl_words.specs.declared.words.Meaning as words
use Rattle.sw_decl_words.specs.declared.words.Meaning.TheVariants as word
use Rattle.sw_decls.specs.declared.signature.GlobalVar.{GlobalVar}
use Rattle.sw_decls.specs.declared.signature.Signature.{Signature}
use Rattle.sw_typing_rules.specs.Calls.{Callee, Prints, Takes, Uncallable, Untyped, all_typed}
use Rattle.sw_typing_rules.specs.Calls.{call_types, callee_meaning, called, func_callee}
use Rattle.sw_typing_rules.specs.Calls.{global_callee, part_callee, signature_callee, struct_callee}
use Rattle.sw_typing_rules.specs.Calls.{value_layer, variable_callee, word_callee, make_callee}
use Rattle.sw_typing_rules.specs.Expressions.{Passed, call_callee, call_judged, sensed, word_judged}
use Rattle.sw_typing_rules.specs.Statements.{capture_rows}
use Rattle.sw_typing_rules.specs.Verdicts.{meaning_rows, type_in}
use Rattle.sw_typing_rules.specs.Words.{Nothing, OwnCase, OwnMethod, OwnProperty, Printing, Sense}
use Rattle.sw_typing_rules.specs.Words.{Setting, Top, Variable, local, local_sense, member_sense}
use Rattle.sw_typing_rules.specs.Words.{owned, role_sense, sense, top_sense}
use Rattle.sw_typing_rules.specs.Worlds.{World, part_at}
use Rattle.sw_typing_rules.specs.declared.row.Meaning.{Meaning}
use Rattle.sw_typing_rules.specs.declared.row.Meaning.TheVariants as means
use Rattle.sw_typing_rules.specs.declared.row.Row.{Row}
use Rattle.sw_typing_rules.specs.declared.scope.Var.{Var}
use Rattle.sw_typing_rules.specs.declared.verdict.Given.{Given}
use Rattle.sw_typing_rules.specs.declared.verdict.Verdict.TheVariants.{Held}
use Rattle.sw_isolation_rules.specs.Answers.{Answers, for_some}
use Rattle.sw_isolation_rules.specs.Captures.{list_mentions, me_mentions, meant_mentions, mention}
use Rattle.sw_isolation_rules.specs.Captures.{self_of, word_mentions}
use Rattle.sw_isolation_rules.specs.declared.note.Mention.{Mention}
use Rattle.sw_typing_facts.specs.Rows.{RowsHold}
use Rattle.sw_typing_facts.proofs.Lists.Listed.{in_first}
use Rattle.sw_typing_facts.proofs.Said.Rows.{rows_left, rows_right}
use Rattle.sw_typing_facts.proofs.Types.Within.{all_append}
use Rattle.sw_tree.specs.Scopes.{Word, free_word}
use Rattle.sw_lower_total_facts.proofs.Mentions.Notes.{MentionsIn}
use Rattle.sw_lower_total_facts.proofs.Mentions.Seen.{Means}

-- a sense that is this variable
abbrev IsVariable : Sense → ℕ → Type 0
IsVariable (Variable one) key = one.at ≡ key
IsVariable (OwnProperty shape number) key = ⊥
IsVariable (OwnMethod method) key = ⊥
IsVariable OwnCase key = ⊥
IsVariable (Top meaning) key = ⊥
IsVariable Printing key = ⊥
IsVariable Nothing key = ⊥

-- A visible variable that a word means.
abbrev pub IsLocal : List Var → ℕ → ℕ → Type 0
IsLocal vars id key = (one : Var) × (local vars id ≡ Some one) × (one.at ≡ key)

-- A word's variable is visible.
sense_seen : (world : World) (setting : Setting) (id key : ℕ)
    → IsVariable (sense world setting id) key → IsLocal setting.vars id key
sense_seen world setting id key is = by (local setting.vars id) refl is where
  top : (found : Option words.Meaning) → IsVariable (top_sense found id) key → ⊥
  top (Some meaning) is = is
  top None is = print (id == 7) is where
    print : (so : Bool) → IsVariable (if so then Printing else Nothing) key → ⊥
    print true is = is
    print false is = is

  by_role : (shape : ℕ) (member : Member) (found : Role)
      → IsVariable (role_sense shape member.word.at found) key → ⊥
  by_role shape member (role.Part i) is = is
  by_role shape member (role.Case i) is = is
  by_role shape member role.Method is = is

  in_type : (around : Option ℕ) (found : Option Member)
      → IsVariable (member_sense around found (top_sense (world.known.top id) id)) key → ⊥
  in_type None found is = top (world.known.top id) is
  in_type (Some shape) None is = top (world.known.top id) is
  in_type (Some shape) (Some member) is = by_role shape member member.role is

  by : (found : Option Var) → local setting.vars id ≡ found
      → IsVariable (local_sense found (member_sense setting.owner
      (owned world setting.owner id) (top_sense (world.known.top id) id))) key
      → IsLocal setting.vars id key
  by (Some one) found is = (one, found, is)
  by None found is = absurd (in_type setting.owner (owned world setting.owner id) is)

-- what is said of a meaning is what was noted
same_meaning : (answers : Answers) (at key : ℕ) (meaning : Meaning)
    → answers.meaning_at at ≡ Some meaning → answers.meaning_at at ≡ Some (means.Local key)
    → meaning ≡ means.Local key
same_meaning answers at key meaning one other =
    same_Some meaning (means.Local key) (sym one ∙ other)

local_key : (one key : ℕ) → means.Local one ≡ means.Local key → one ≡ key
local_key one key is = cc

-- A callee that is called means this.
abbrev CalleeMeans : (Meaning → Type 0) → Callee → Type 0
CalleeMeans P (Takes meaning slots result) = P meaning
CalleeMeans P (Untyped meaning) = Unit {0}
CalleeMeans P Prints = P means.Print
CalleeMeans P (Uncallable code) = Unit {0}

-- A call has a type, so its callee is known.
callee_known : (P : Meaning → Type 0) (callee : Callee) (given : List Given) (answers : Answers)
    (at : ℕ) (found : Meaning) → is_some (type_in (call_types callee given)) ≡ true
    → RowsHold answers (meaning_rows at (callee_meaning callee)) → CalleeMeans P callee
    → answers.meaning_at at ≡ Some found → P found
callee_known P (Takes meaning slots result) given answers at found typed rows is at_is =
    subst P (same_Some meaning found (sym rows.0 ∙ at_is)) is
callee_known P Prints given answers at found typed rows is at_is =
    subst P (same_Some means.Print found (sym rows.0 ∙ at_is)) is
callee_known P (Untyped meaning) given answers at found typed rows is at_is =
    absurd (by (all_typed given) typed) where
      by : (all : Bool)
          → is_some (type_in (if all then called (Untyped meaning) given else Held)) ≡ true → ⊥
      by true typed = false≢true typed
      by false typed = false≢true typed
callee_known P (Uncallable code) given answers at found typed rows is at_is =
    absurd (by (all_typed given) typed) where
      by : (all : Bool)
          → is_some (type_in (if all then called (Uncallable code) given else Held)) ≡ true → ⊥
      by true typed = false≢true typed
      by false typed = false≢true typed

-- callees that mean this where they mean something
module _ (P : Meaning → Type 0) where
  value_means : (meaning : Meaning) (code : ℕ) (one : layer.Ty-F Ty) → P meaning
      → CalleeMeans P (value_layer meaning code one)
  value_means meaning code layer.Int is = tt
  value_means meaning code layer.Bool is = tt
  value_means meaning code layer.Unit is = tt
  value_means meaning code (layer.Named shape) is = tt
  value_means meaning code (layer.Func marked params result) is = is
  value_means meaning code (layer.Task inner) is = tt

  variable_means : (meaning : Meaning) (found : Option Ty) → P meaning
      → CalleeMeans P (variable_callee meaning found)
  variable_means meaning None is = tt
  variable_means meaning (Some ty) is = value_means meaning 401 (out-Ty ty) is

  part_means : (meaning : Meaning) (code : ℕ) (found : Option Part) → P meaning
      → CalleeMeans P (part_callee meaning code found)
  part_means meaning code None is = tt
  part_means meaning code (Some part) is = value_means meaning code (out-Ty part.ty) is

  global_means : (meaning : Meaning) (found : Option GlobalVar) → P meaning
      → CalleeMeans P (global_callee meaning found)
  global_means meaning None is = tt
  global_means meaning (Some global) is = value_means meaning 401 (out-Ty global.ty) is

  signature_means : (meaning : Meaning) (code : ℕ) (found : Option Signature) → P meaning
      → CalleeMeans P (signature_callee meaning code found)
  signature_means meaning code None is = tt
  signature_means meaning code (Some func) is = is

  func_means : (world : World) (meaning : ℕ → Meaning) (code : ℕ) (found : Option ℕ)
      → ((number : ℕ) → P (meaning number)) → CalleeMeans P (func_callee world meaning code found)
  func_means world meaning code None is = tt
  func_means world meaning code (Some number) is =
      signature_means (meaning number) code (slice_get world.funcs number) (is number)

  struct_means : (number : ℕ) (found : Option Shape) → P (means.MakeOf number)
      → CalleeMeans P (struct_callee number found)
  struct_means number None is = tt
  struct_means number (Some shape) is = is

  make_means : (world : World) (made : ShapeKind) (number : ℕ)
      → ((other : ℕ) → P (means.MakeOf other)) → CalleeMeans P (make_callee world made number)
  make_means world kind.Struct number is =
      struct_means number (slice_get world.shapes number) (is number)
  make_means world kind.Enum number is = tt
  make_means world kind.Class number is = func_means world _ 401 _ (λ other. is number)
  make_means world kind.Actor number is = func_means world _ 401 _ (λ other. is number)

-- what means no variable but this
abbrev LocalIs : Sense → Meaning → Type 0
LocalIs meant meaning = (key : ℕ) → meaning ≡ means.Local key → IsVariable meant key

-- the callee that a word names
word_means : (world : World) (meant : Sense)
    → CalleeMeans (LocalIs meant) (word_callee world meant)
word_means world (Variable one) =
    variable_means (LocalIs (Variable one)) (means.Local one.at) one.ty
    (λ key is. local_key one.at key is)
word_means world (OwnProperty shape number) =
    part_means (LocalIs (OwnProperty shape number)) (means.OwnPart number) 401
    (part_at world shape number) (λ key is. cc)
word_means world (OwnMethod method) =
    func_means (LocalIs (OwnMethod method)) world means.OwnFunc 401 (world.numbers method)
    (λ number key is. cc)
word_means world OwnCase = tt
word_means world (Top (word.Shape made number)) =
    make_means (LocalIs (Top (word.Shape made number))) world made number (λ other key is. cc)
word_means world (Top (word.GlobalActor number)) = tt
word_means world (Top (word.Func function)) =
    func_means (LocalIs (Top (word.Func function))) world means.FuncOf 401
    (world.numbers function) (λ number key is. cc)
word_means world (Top (word.Global number)) =
    global_means (LocalIs (Top (word.Global number))) (means.GlobalOf number)
    (slice_get world.globals number) (λ key is. cc)
word_means world (Top word.Entry) = tt
word_means world Printing = λ key is. cc
word_means world Nothing = tt

-- A word that is read means a variable only where that is its sense.
sensed_local : (world : World) (answers : Answers) (meant : Sense) (at key : ℕ)
    → RowsHold answers (sensed world meant at).rows
    → answers.meaning_at at ≡ Some (means.Local key) → IsVariable meant key
sensed_local world answers (Variable one) at key rows is =
    local_key one.at key (same_meaning answers at key (means.Local one.at) rows.0 is)
sensed_local world answers (OwnProperty shape number) at key rows is =
    absurd (no (same_meaning answers at key (means.OwnPart number) rows.0 is)) where
      no : means.OwnPart number ≡ means.Local key → ⊥
      no same = cc
sensed_local world answers (OwnMethod method) at key rows is = absurd rows.0
sensed_local world answers OwnCase at key rows is = absurd rows.0
sensed_local world answers (Top (word.Shape made number)) at key rows is = absurd rows.0
sensed_local world answers (Top (word.GlobalActor number)) at key rows is = absurd rows.0
sensed_local world answers (Top (word.Func function)) at key rows is = absurd rows.0
sensed_local world answers (Top (word.Global number)) at key rows is =
    absurd (no (same_meaning answers at key (means.GlobalOf number) rows.0 is)) where
      no : means.GlobalOf number ≡ means.Local key → ⊥
      no same = cc
sensed_local world answers (Top word.Entry) at key rows is = absurd rows.0
sensed_local world answers Printing at key rows is = absurd rows.0
sensed_local world answers Nothing at key rows is = absurd rows.0

-- The word with a key means no variable but the visible one of its name.
abbrev pub MeansLocal : Answers → List Var → ℕ → ℕ → Type 0
MeansLocal answers vars id at = (key : ℕ) → answers.meaning_at at ≡ Some (means.Local key)
    → IsLocal vars id key

-- The word with a key means no variable but one that these words mean.
abbrev pub MeansVisible : Answers → List Var → List Word → ℕ → Type 0
MeansVisible answers vars free at = (key : ℕ) → answers.meaning_at at ≡ Some (means.Local key)
    → Means vars free key

-- A word is among these words.
pub local_visible : (answers : Answers) (vars : List Var) (free : List Word) (word : Word)
    (at : ℕ) → Contains free word → MeansLocal answers vars word.id at
    → MeansVisible answers vars free at
local_visible answers vars free word at has is key same =
    let (one, found, at_is) = is key same in (word, has, one, found, at_is)

pub word_visible : (world : World) (answers : Answers) (setting : Setting) (name : Name)
    → RowsHold answers (word_judged world setting name).rows
    → MeansVisible answers setting.vars (free_word name ∷ []) name.at
word_visible world answers setting name rows =
    local_visible answers setting.vars (free_word name ∷ []) (free_word name) name.at
    (in_first (free_word name) [])
    (λ key is.
    sense_seen world setting name.id key
    (sensed_local world answers (sense world setting name.id) name.at key rows is))

pub call_visible : (world : World) (answers : Answers) (setting : Setting) (name : Name)
    (before : List Row) (passed : Passed)
    → is_some (call_judged (call_callee world setting name) name.at before passed).ty ≡ true
    → RowsHold answers (call_judged (call_callee world setting name) name.at before passed).rows
    → MeansVisible answers setting.vars (free_word name ∷ []) name.at
call_visible world answers setting name before passed typed rows =
    let meant = sense world setting name.id in
    let callee = word_callee world meant in
    let meaning = meaning_rows name.at (callee_meaning callee) in
    local_visible answers setting.vars (free_word name ∷ []) (free_word name) name.at
    (in_first (free_word name) [])
    (λ key is.
    sense_seen world setting name.id key
    (callee_known (LocalIs meant) callee passed.given answers name.at (means.Local key) typed
    (rows_right answers passed.rows meaning
    (rows_right answers before (passed.rows ++ meaning)
    (rows_left answers (before ++ (passed.rows ++ meaning)) _ rows)))
    (word_means world meant) is key refl))

-- a word that a closure lists
pub capture_local : (answers : Answers) (vars : List Var) (name : Name)
    → RowsHold answers (capture_rows name (local vars name.id))
    → MeansLocal answers vars name.id name.at
capture_local answers vars name rows key is = by (local vars name.id) refl rows where
  by : (found : Option Var) → local vars name.id ≡ found
      → RowsHold answers (capture_rows name found) → IsLocal vars name.id key
  by None found rows = absurd rows.0
  by (Some one) found rows = (
    one,
    found,
    local_key one.at key (same_meaning answers name.at key (means.Local one.at) rows.0 is),
  )

-- What a word mentions is so where its variable and `self` are.
module _ (P : ℕ → Type 0) (world : World) (owner : Option ℕ)
    (selves : AllByRecursion P (self_of world owner)) where
  pub me_in : (at : ℕ) → MentionsIn P (me_mentions world owner at)
  unfolding me_mentions
  me_in at = by (self_of world owner) selves where
    by : (keys : List ℕ) → AllByRecursion P keys
        → MentionsIn P (map (λ me. mention me at) keys)
    by [] all = tt
    by (key ∷ keys) all = (all.0, by keys all.1)

  meant_in : (at : ℕ) (meaning : Meaning) → ((key : ℕ) → meaning ≡ means.Local key → P key)
      → MentionsIn P (meant_mentions world owner at meaning)
  meant_in at (means.Local variable) is = (is variable refl, tt)
  meant_in at (means.OwnPart number) is = me_in at
  meant_in at (means.OwnFunc number) is = me_in at
  meant_in at (means.GlobalOf number) is = tt
  meant_in at (means.FuncOf number) is = tt
  meant_in at (means.MakeOf shape) is = tt
  meant_in at (means.CaseOf shape number) is = tt
  meant_in at (means.PartOf number) is = tt
  meant_in at means.Print is = tt
  meant_in at means.TaskValue is = tt

  pub word_in : (answers : Answers) (at : ℕ)
      → ((key : ℕ) → answers.meaning_at at ≡ Some (means.Local key) → P key)
      → MentionsIn P (word_mentions world answers owner at)
  unfolding word_mentions
  word_in answers at is = by (answers.meaning_at at) is where
    by : (found : Option Meaning) → ((key : ℕ) → found ≡ Some (means.Local key) → P key)
        → MentionsIn P (for_some found (meant_mentions world owner at))
    by None is = tt
    by (Some meaning) is = meant_in at meaning (λ key same. is key (ap Some same))

  pub list_in : (answers : Answers) (captures : List Name)
      → AllByRecursion (λ (name : Name).
      (key : ℕ) → answers.meaning_at name.at ≡ Some (means.Local key) → P key) captures
      → MentionsIn P (list_mentions world answers owner captures)
  list_in answers [] all = tt
  list_in answers (name ∷ captures) all =
      all_append (λ (one : Mention). P one.variable)
      (word_mentions world answers owner name.at)
      (list_mentions world answers owner captures) (word_in answers name.at all.0)
      (list_in answers captures all.1)
