-- The values that an initialiser gives proceed: they are simple, and of variables they mention
-- parameters alone.
use Rattle.std.proofs.Common.{◌≡◌, ℕ, Bool, List, [], ◌∷◌, Option, Contains, is_some}
use Rattle.std.proofs.Common.{sym, ◌∙◌, subst, arith, zero, suc, true}
use Rattle.std.proofs.lemmas.List.Elements.{All-nil}
use Rattle.std.specs.Prelude.{All, flat_map}
use Rattle.sw_list.proofs.Members.{none_in, of_flat_map}
use Rattle.sw_tree.specs.declared.decl.Decl.{Decl}
use Rattle.sw_tree.specs.declared.expr.Expr.{Expr}
use Rattle.sw_tree.proofs.Members.{in_map, of_map}
use Rattle.sw_tree_facts.specs.Unwritten.{expr_unwritten}
use Rattle.sw_decl_words.specs.Evident.{Meanings, meanings_of}
use Rattle.sw_decl_values.specs.Simple.{is_simple}
use Rattle.sw_decls.specs.declared.signature.AsyncDefault.{AsyncDefault}
use Rattle.sw_typing_rules.specs.Expressions.{Judged}
use Rattle.sw_typing_rules.specs.Judges.{Judges}
use Rattle.sw_typing_rules.specs.Words.{Setting, local}
use Rattle.sw_typing_rules.specs.Worlds.{World}
use Rattle.sw_typing_rules.specs.declared.scope.Var.{Var}
use Rattle.sw_isolation_rules.specs.Captures.{mentioned}
use Rattle.sw_isolation_rules.specs.declared.note.Mention.{Mention}
use Rattle.sw_isolation_rules.specs.declared.note.Note.{Note}
use Rattle.sw_isolation_rules.specs.declared.note.Note.TheVariants.{Body, Captures, Kind, Mentioned}
use Rattle.sw_isolation_rules.specs.declared.note.Note.TheVariants.{Race, Refused, Var as Variable}
use Rattle.sw_isolation_rules.specs.declared.uses.Context.{Context}
use Rattle.sw_lower_plans.specs.Plan.{Numbers}
use Rattle.sw_lower_plans.specs.Run.{IsGoing, Making}
use Rattle.sw_lower_rules.specs.Statements.{expr_code}
use Rattle.sw_lower_rules.specs.Tables.{Tables}
use Rattle.sw_lower_formed_facts.specs.Forms.{VarsHold}
use Rattle.sw_typing_facts.specs.Rows.{RowsHold}
use Rattle.sw_typing_facts.proofs.Lists.Listed.{only_in}
use Rattle.sw_typing_facts.proofs.Programs.DeclStands.{known_is}
use Rattle.sw_lower_formed_facts.proofs.Programs.SimpleInside.{simple_inside}
use Rattle.sw_lower_total_facts.specs.Bound.{VariableIsBound}
use Rattle.sw_typing_facts.specs.EnumWords.{AreUnmeant, in_expr}
use Rattle.sw_lower_total_facts.specs.Forms.{ExprProceeds}
use Rattle.sw_lower_total_facts.specs.Noted.{keys_of, mentions}
use Rattle.sw_lower_total_facts.specs.Proceeding.{BodyIsNumbered, Proceeds}
use Rattle.sw_lower_total_facts.specs.Programs.{noted_tables, notes_of}
use Rattle.sw_lower_total_facts.specs.Trees.{ExprStands, noted_of}
use Rattle.sw_lower_total_facts.proofs.Bodies.Given.{IsProgram}
use Rattle.sw_lower_total_facts.proofs.Bodies.Initialisers.{Kept}
use Rattle.sw_lower_total_facts.proofs.Bodies.SimpleHeld.{held_notes, simple_held}
use Rattle.sw_lower_total_facts.proofs.Bodies.SimpleMentions.{simple_mentions}
use Rattle.sw_lower_total_facts.proofs.Mentions.Notes.{AreIn, NoteIs}
use Rattle.sw_lower_total_facts.proofs.Proceeding.Ready.{bound_after}

-- where these variables are bound in the code of a body
pub record Begun (tables : Tables) (number : Numbers) (vars : List Var) (s : Making) : Type 0 where
  pub going : IsGoing s
  pub numbers : s.number ≡ number
  pub bound : (key : ℕ) → Contains (keys_of vars) key → VariableIsBound tables [] s.vars key

-- All code keeps that.
abbrev pub begun_kept : Tables → Numbers → List Var → Kept
begun_kept tables number vars = record {
  Holds = Begun tables number vars;
  going = λ s begun. begun.going;
  keeps = λ code s t value begun ran. record {
    going = ran.1.there;
    numbers = ran.1.number ∙ begun.numbers;
    bound = λ key has. bound_after tables [] _ s t key ran.1 (begun.bound key has);
  };
}

-- fewer variables
pub begun_none : (tables : Tables) (number : Numbers) (vars : List Var) (s : Making)
    → Begun tables number vars s → Begun tables number [] s
begun_none tables number vars s begun = record {
  going = begun.going;
  numbers = begun.numbers;
  bound = λ key has. absurd (none_in key has);
}

-- a variable that notes mention, where each that they mention is such a one
note_mentions : (P : ℕ → Type 0) (note : Note) (one : Mention) → NoteIs P note
    → Contains (mentioned note) one → P one.variable
note_mentions P (Body body) one is has = absurd (none_in one has)
note_mentions P (Kind kinded) one is has = absurd (none_in one has)
note_mentions P (Refused placed) one is has = absurd (none_in one has)
note_mentions P (Race placed) one is has = absurd (none_in one has)
note_mentions P (Variable key) one is has = absurd (none_in one has)
note_mentions P (Mentioned other) one is has =
    subst (λ (mention : Mention). P mention.variable) (only_in other one has) is
note_mentions P (Captures held) one is has = absurd (none_in one has)

note_among : (P : ℕ → Type 0) (notes : List Note) (note : Note) → AreIn P notes
    → Contains notes note → NoteIs P note
note_among P [] note are has = absurd (none_in note has)
note_among P (first ∷ notes) note are (zero, lt, is) = subst (NoteIs P) is are.0
note_among P (first ∷ notes) note are (suc k, lt, is) =
    note_among P notes note are.1 (k, omega (arith, lt), is)

pub mentioned_in : (P : ℕ → Type 0) (notes : List Note) (key : ℕ) → AreIn P notes
    → Contains (mentions notes) key → P key
mentioned_in P notes key are has =
    let (one, among, is) = of_map (λ (one : Mention). one.variable) (flat_map mentioned notes) key
    has in
    let (note, noted, inside) = of_flat_map mentioned notes one among in
    subst P is (note_mentions P note one (note_among P notes note are noted) inside)

module _ (world : World) (decls : List Decl) (rule : AsyncDefault) (number : Numbers)
    (program : IsProgram world decls rule number) where
  abbrev tables : Tables
  tables = noted_tables world decls

  abbrev all : List Note
  all = notes_of world decls

  -- A simple value proceeds where the parameters that are seen in it are bound.
  pub simple_proceeds : (setting : Setting) (expected : Bool) (value : Expr) (judged : Judged)
      (judges : Judges world setting expected value judged)
      → AreUnmeant tables.answers (in_expr world setting expected value judged judges)
      → expr_unwritten value ≡ [] → VarsHold tables.answers setting.vars
      → RowsHold tables.answers judged.rows → (params : ℕ → Option ℕ)
      → ((id : ℕ) → is_some (params id) ≡ is_some (local setting.vars id))
      → is_simple (meanings_of decls) setting.owner params value ≡ true → (context : Context)
      → context.owner ≡ setting.owner
      → ExprStands tables number all context [] setting.vars value
      → (s : Making) → Begun tables number setting.vars s
      → Proceeds s (expr_code tables setting.owner value).read
  simple_proceeds setting expected value judged judges unmeant tasks vars rows params agrees simple
      context owner stands s begun =
      ok.read s (record {
        going = begun.going;
        numbers = begun.numbers;
        vars = λ key seen has. begun.bound key (mentioned_in _ notes key are has);
        held = λ own held. absurd (none_in held.0
            (subst (λ list. Contains list held.0) none held.1));
      }) where
        notes : List Note
        notes = noted_of tables number all value context []

        IsSimple : Meanings → Type 0
        IsSimple known = is_simple known setting.owner params value ≡ true

        known_simple : IsSimple world.known
        known_simple = subst IsSimple (sym (known_is decls rule world program.declared)) simple

        are : AreIn (λ key. Contains (keys_of setting.vars) key) notes
        are = simple_mentions world tables.answers setting params agrees vars
            (in_map (λ (one : Var). one.at) setting.vars) expected value judged judges rows unmeant
            known_simple context []

        none : held_notes notes ≡ []
        none = simple_held world tables.answers (meanings_of decls) setting.owner params value
            simple context []

        no_bodies : (expr_code tables setting.owner value).inside ≡ []
        no_bodies = simple_inside tables setting.owner (meanings_of decls) setting.owner params
            value simple

        ok : ExprProceeds tables number context [] setting.vars notes
            (expr_code tables setting.owner value)
        ok = program.exprs setting expected value judged judges unmeant tasks vars rows
            (subst (λ bodies. All (BodyIsNumbered number) bodies) (sym no_bodies)
            (All-nil (BodyIsNumbered number))) context [] owner stands
