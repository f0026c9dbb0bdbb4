-- A word and `self` ask for nothing that isn't known, and neither does an assignment to a word.
use Rattle.std.proofs.Common.{◌≡◌, ◌<◌, ℕ, true, List, Option, Some, None}
use Rattle.std.proofs.Common.{ap, sym, subst, refl, ◌∙◌, map, length}
use Rattle.std.proofs.lemmas.List.Elements.{All-nil, Contains-append_left, Contains-append_right}
use Rattle.std.specs.Prelude.{Contains, slice_get}
use Rattle.sw_tree.specs.declared.name.Name.{Name}
use Rattle.sw_tree.proofs.Members.{in_map}
use Rattle.sw_types.specs.declared.shape.Part.{Part}
use Rattle.sw_types.specs.declared.shape.Shape.{Shape}
use Rattle.sw_types.specs.declared.ty.Ty.TheVariants as types
use Rattle.sw_types.specs.declared.ty.Ty.TheVariants.{outs-Named}
use Rattle.sw_graph.specs.declared.instr.Instr.TheVariants as instr
use Rattle.sw_graph.specs.declared.instr.Operand.{Operand}
use Rattle.sw_decl_words.specs.declared.words.Meaning.TheVariants as word
use Rattle.sw_decls.specs.declared.signature.GlobalVar.{GlobalVar}
use Rattle.sw_typing_rules.specs.Expressions.{me_judged, sensed, word_judged}
use Rattle.sw_typing_rules.specs.Verdicts.{rows_of}
use Rattle.sw_typing_rules.specs.Words.{Nothing, OwnCase, OwnMethod, OwnProperty, Printing, Sense}
use Rattle.sw_typing_rules.specs.Words.{Setting, Top, Variable, global_types, is_var_part}
use Rattle.sw_typing_rules.specs.Words.{part_types, sense, word_settable}
use Rattle.sw_typing_rules.specs.Worlds.{is_object, item, part_at}
use Rattle.sw_typing_rules.specs.declared.row.Meaning.{Meaning}
use Rattle.sw_typing_rules.specs.declared.row.Meaning.TheVariants as means
use Rattle.sw_typing_rules.specs.declared.scope.Var.{Var}
use Rattle.sw_typing_rules.proofs.Steps.{and_left}
use Rattle.sw_isolation_rules.specs.Captures.{self_of, word_mentions}
use Rattle.sw_isolation_rules.specs.Noting.{me_notes, mention_notes, use_notes, used_at, word_notes}
use Rattle.sw_isolation_rules.specs.Uses.{meant, no_base, global}
use Rattle.sw_isolation_rules.specs.declared.note.Note.{Note}
use Rattle.sw_isolation_rules.specs.declared.uses.Context.{Context}
use Rattle.sw_lower_plans.specs.Plan.{Numbers}
use Rattle.sw_lower_code.specs.Code.{Code}
use Rattle.sw_lower_rules.specs.Expressions.{own_base, self_code, word_code, word_write, write_part}
use Rattle.sw_lower_rules.specs.Tables.{Tables}
use Rattle.sw_lower_rules.specs.Uses.{read_global, read_own, read_self, read_var, read_word}
use Rattle.sw_lower_rules.specs.Uses.{word_by}
use Rattle.sw_typing_facts.specs.Rows.{RowsHold}
use Rattle.sw_lower_formed_facts.proofs.Expressions.Words.{object_no_struct}
use Rattle.sw_typing_facts.proofs.Lists.Found.{found_in_found}
use Rattle.sw_typing_facts.proofs.Lists.Listed.{some_at}
use Rattle.sw_typing_facts.proofs.Types.Within.{LayerWithin, out_within}
use Rattle.sw_lower_total_facts.specs.Bound.{seen_in}
use Rattle.sw_lower_total_facts.specs.Forms.{ExprProceeds, PlaceProceeds}
use Rattle.sw_lower_total_facts.specs.Known.{TablesAgree}
use Rattle.sw_lower_total_facts.specs.Noted.{kinds_of, mentions}
use Rattle.sw_lower_total_facts.specs.Proceeding.{BodyProceeds}
use Rattle.sw_lower_total_facts.proofs.Expressions.Kinds.{kind_at_use, kinds_after, mentions_no_kinds}
use Rattle.sw_lower_total_facts.proofs.Expressions.Kinds.{use_kind}
use Rattle.sw_lower_total_facts.proofs.Expressions.Mentioned.{local_mentioned, own_part_mentioned}
use Rattle.sw_lower_total_facts.proofs.Expressions.Mentioned.{self_mentioned}
use Rattle.sw_lower_total_facts.proofs.Expressions.Reading.{goes_read_global, goes_read_own}
use Rattle.sw_lower_total_facts.proofs.Expressions.Reading.{goes_read_self, goes_read_var, goes_write_var}
use Rattle.sw_lower_total_facts.proofs.Expressions.Senses.{SenseSeen, ShapesStand, sense_seen}
use Rattle.sw_lower_total_facts.proofs.Expressions.Uses.{global_used_is, part_used_is, used_by}
use Rattle.sw_lower_total_facts.proofs.Expressions.Writing.{goes_write_part}
use Rattle.sw_lower_total_facts.proofs.Proceeding.Each.{Goes}
use Rattle.sw_lower_total_facts.proofs.Proceeding.Using.{goes_emit, goes_known, goes_left}

-- A variable that is seen is among those that code sees.
pub var_seen : (tables : Tables) (owner : Option ℕ) (vars : List Var) (one : Var)
    → Contains vars one → Contains (seen_in tables owner vars) one.at
var_seen tables owner vars one has =
    Contains-append_right (self_of tables.world owner) (map (λ (v : Var). v.at) vars) one.at
    (in_map (λ (v : Var). v.at) vars one has)

module _ (tables : Tables) (number_of : Numbers) (all : List Note)
    (knows : TablesAgree tables number_of all) (stand : ShapesStand tables.world)
    (context : Context)
    (listed : List ℕ) (vars : List Var) where
  abbrev Reading : List Note → {A : Type 0} → Code A → Type 0
  Reading notes code =
      Goes tables number_of context listed (seen_in tables context.owner vars) notes code

  -- what is mentioned by a word, and all that is noted of it
  abbrev mentioned_at : ℕ → List Note
  mentioned_at at = mention_notes tables.world tables.answers context at

  abbrev noted_at : ℕ → List Note
  noted_at at = word_notes tables.world tables.answers context at

  -- the use at a node with a meaning
  abbrev pub KindIs : ℕ → Type 0
  KindIs at = (meaning : Meaning) → tables.answers.meaning_at at ≡ Some meaning
      → tables.isolation.kind_at at
      ≡ use_kind context (meant tables.world context.owner no_base (Some meaning))

  -- what a word uses, where nothing else is noted of its node
  pub word_kind : (at : ℕ) → kinds_of at all ≡ kinds_of at (noted_at at) → KindIs at
  word_kind at same meaning is =
      kind_at_use tables number_of all knows context at
      (used_at tables.world tables.answers context no_base at)
      (same
      ∙ kinds_after at (mentioned_at at)
      (use_notes context at (used_at tables.world tables.answers context no_base at))
      (mentions_no_kinds at (word_mentions tables.world tables.answers context.owner at)))
      ∙ ap (use_kind context)
      (used_by tables.world tables.answers context.owner no_base at meaning is)

  -- `self`
  self_read : (notes : List Note) (at k : ℕ) (shape : Shape) → context.owner ≡ Some k
      → slice_get tables.world.shapes k ≡ Some shape
      → ((is : item context.owner tables.world.shapes ≡ Some shape)
      → Contains (mentions notes) shape.at)
      → Reading notes (read_self tables context.owner at)
  self_read notes at k shape owner_is shape_is has =
      let is = ap (λ owner. item owner tables.world.shapes) owner_is ∙ shape_is in
      goes_read_self tables number_of all knows context listed vars notes at shape is (has is)

  -- The code of a word is that of its meaning.
  by_meaning : (notes : List Note) (at : ℕ) (meaning : Meaning)
      → tables.answers.meaning_at at ≡ Some meaning
      → Reading notes (word_by tables context.owner at (Some meaning))
      → Reading notes (read_word tables context.owner at)
  unfolding read_word
  by_meaning notes at meaning is goes =
      subst (λ found. Reading notes (word_by tables context.owner at found)) (sym is) goes

  -- the value of a variable
  pub variable_read : (at : ℕ) (one : Var) → Contains vars one
      → tables.answers.meaning_at at ≡ Some (means.Local one.at)
      → Reading (mentioned_at at) (read_var tables at one.at)
  variable_read at one has is =
      goes_read_var tables number_of all knows context listed vars (mentioned_at at) at one.at
      (var_seen tables context.owner vars one has)
      (local_mentioned tables.world tables.answers context at one.at is)

  -- of a property of `self`
  pub own_read : (at k i : ℕ) (part : Part) → context.owner ≡ Some k
      → part_at tables.world k i ≡ Some part
      → tables.answers.meaning_at at ≡ Some (means.OwnPart i) → KindIs at
      → Reading (mentioned_at at) (read_own tables context.owner at i)
  own_read at k i part owner_is is means_is kind_is =
      let found = found_in_found (slice_get tables.world.shapes k)
      (λ (s : Shape). slice_get s.parts i) part is in
      let around = ap (λ owner. item owner tables.world.shapes) owner_is ∙ found.1 in
      goes_read_own tables number_of all knows context listed vars (mentioned_at at) at k i found.0
      part owner_is found.1 found.2 (stand.parts k i found.0 part found.1 found.2) true
      (kind_is (means.OwnPart i) means_is
      ∙ ap (use_kind context)
      (part_used_is tables.world context.owner k i true found.0 part owner_is found.1 found.2))
      (own_part_mentioned tables.world tables.answers context at i found.0 means_is around)

  -- and of a global variable
  pub global_read : (at g : ℕ) (one : GlobalVar) → slice_get tables.world.globals g ≡ Some one
      → tables.answers.meaning_at at ≡ Some (means.GlobalOf g) → KindIs at
      → Reading (mentioned_at at) (read_global tables at g)
  global_read at g one is means_is kind_is =
      goes_read_global tables number_of all knows context listed vars (mentioned_at at) at g one is
      (kind_is (means.GlobalOf g) means_is
      ∙ ap (use_kind context) (global_used_is tables.world g one is))

  -- a word with a sense
  sensed_read : (meant : Sense) (at : ℕ) → SenseSeen tables.world vars context.owner meant
      → RowsHold tables.answers (sensed tables.world meant at).rows → KindIs at
      → Reading (mentioned_at at) (read_word tables context.owner at)
  sensed_read (Variable one) at has rows kind_is =
      by_meaning (mentioned_at at) at (means.Local one.at) rows.0 (variable_read at one has rows.0)
  sensed_read (OwnProperty k i) at owner_is rows kind_is =
      by (part_at tables.world k i) refl rows.1 where
        by : (found : Option Part) → part_at tables.world k i ≡ found
            → RowsHold tables.answers (rows_of at (part_types found 401))
            → Reading (mentioned_at at) (read_word tables context.owner at)
        by None is typed = absurd typed.0
        by (Some part) is typed =
            by_meaning (mentioned_at at) at (means.OwnPart i) rows.0
            (own_read at k i part owner_is is rows.0 kind_is)
  sensed_read (OwnMethod key) at seen rows kind_is = absurd rows.0
  sensed_read OwnCase at seen rows kind_is = absurd rows.0
  sensed_read (Top (word.Shape kind n)) at seen rows kind_is = absurd rows.0
  sensed_read (Top (word.GlobalActor n)) at seen rows kind_is = absurd rows.0
  sensed_read (Top (word.Func key)) at seen rows kind_is = absurd rows.0
  sensed_read (Top (word.Global g)) at seen rows kind_is =
      by (slice_get tables.world.globals g) refl rows.1 where
        by : (found : Option GlobalVar) → slice_get tables.world.globals g ≡ found
            → RowsHold tables.answers (rows_of at (global_types found))
            → Reading (mentioned_at at) (read_word tables context.owner at)
        by None is typed = absurd typed.0
        by (Some global) is typed =
            by_meaning (mentioned_at at) at (means.GlobalOf g) rows.0
            (global_read at g global is rows.0 kind_is)
  sensed_read (Top word.Entry) at seen rows kind_is = absurd rows.0
  sensed_read Printing at seen rows kind_is = absurd rows.0
  sensed_read Nothing at seen rows kind_is = absurd rows.0

  -- An assignment is that to the meaning.
  to_meaning : (at : ℕ) (meaning : Meaning) (given : Operand)
      → tables.answers.meaning_at at ≡ Some meaning
      → Reading (mentioned_at at) (word_write tables context.owner at (Some meaning) given)
      → Reading (mentioned_at at)
      (word_write tables context.owner at (tables.answers.meaning_at at) given)
  to_meaning at meaning given is goes =
      subst (λ found. Reading (mentioned_at at) (word_write tables context.owner at found given))
      (sym is) goes

  -- an assignment to a property of `self`
  own_write : (at k i : ℕ) (part : Part) (given : Operand) → context.owner ≡ Some k
      → part_at tables.world k i ≡ Some part → is_object tables.world k ≡ true
      → tables.answers.meaning_at at ≡ Some (means.OwnPart i)
      → Reading (mentioned_at at)
      (word_write tables context.owner at (Some (means.OwnPart i)) given)
  own_write at k i part given owner_is is object means_is =
      let found = found_in_found (slice_get tables.world.shapes k)
      (λ (s : Shape). slice_get s.parts i) part is in
      goes_known tables number_of context listed (seen_in tables context.owner vars)
      (mentioned_at at) 0 context.owner k
      (λ shape. write_part tables context.owner at shape i (own_base tables context.owner at) given)
      owner_is
      (goes_write_part tables number_of all knows context listed vars (mentioned_at at)
      context.owner at k i found.0 (own_base tables context.owner at) given found.1
      (stand.parts k i found.0 part found.1 found.2)
      (self_read (mentioned_at at) at k found.0 owner_is found.1
      (own_part_mentioned tables.world tables.answers context at i found.0 means_is))
      (λ struct_is. absurd (object_no_struct tables.world k found.0 found.1 object struct_is)))

  sensed_write : (meant : Sense) (at : ℕ) → SenseSeen tables.world vars context.owner meant
      → RowsHold tables.answers (sensed tables.world meant at).rows
      → word_settable tables.world meant ≡ true → (given : Operand)
      → Reading (mentioned_at at)
      (word_write tables context.owner at (tables.answers.meaning_at at) given)
  sensed_write (Variable one) at has rows settable given =
      to_meaning at (means.Local one.at) given rows.0
      (goes_write_var tables number_of all knows context listed vars (mentioned_at at) at one.at
      given (var_seen tables context.owner vars one has)
      (local_mentioned tables.world tables.answers context at one.at rows.0))
  sensed_write (OwnProperty k i) at owner_is rows settable given =
      by (part_at tables.world k i) refl rows.1 where
        by : (found : Option Part) → part_at tables.world k i ≡ found
            → RowsHold tables.answers (rows_of at (part_types found 401))
            → Reading (mentioned_at at)
            (word_write tables context.owner at (tables.answers.meaning_at at) given)
        by None is typed = absurd typed.0
        by (Some part) is typed =
            to_meaning at (means.OwnPart i) given rows.0
            (own_write at k i part given owner_is is
            (and_left (is_object tables.world k) (is_var_part (part_at tables.world k i)) settable)
            rows.0)
  sensed_write (OwnMethod key) at seen rows settable given = absurd rows.0
  sensed_write OwnCase at seen rows settable given = absurd rows.0
  sensed_write (Top (word.Shape kind n)) at seen rows settable given = absurd rows.0
  sensed_write (Top (word.GlobalActor n)) at seen rows settable given = absurd rows.0
  sensed_write (Top (word.Func key)) at seen rows settable given = absurd rows.0
  sensed_write (Top (word.Global g)) at seen rows settable given =
      to_meaning at (means.GlobalOf g) given rows.0
      (goes_emit tables number_of context listed (seen_in tables context.owner vars)
      (mentioned_at at) (instr.StoreGlobal at g given))
  sensed_write (Top word.Entry) at seen rows settable given = absurd rows.0
  sensed_write Printing at seen rows settable given = absurd rows.0
  sensed_write Nothing at seen rows settable given = absurd rows.0

module _ (tables : Tables) (number_of : Numbers) (all : List Note)
    (knows : TablesAgree tables number_of all) (stand : ShapesStand tables.world)
    (context : Context)
    (listed : List ℕ) (setting : Setting) (same : context.owner ≡ setting.owner) where
  -- what the word means
  seen_sense : (name : Name)
      → SenseSeen tables.world setting.vars context.owner (sense tables.world setting name.id)
  seen_sense name =
      subst (λ owner. SenseSeen tables.world setting.vars owner
      (sense tables.world setting name.id)) (sym same) (sense_seen tables.world setting name.id)

  -- a word
  pub word_proceeds : (name : Name)
      → RowsHold tables.answers (word_judged tables.world setting name).rows
      → kinds_of name.at all
      ≡ kinds_of name.at (word_notes tables.world tables.answers context name.at)
      → ExprProceeds tables number_of context listed setting.vars
      (word_notes tables.world tables.answers context name.at)
      (word_code tables setting.owner name.at)
  word_proceeds name rows alone =
      subst (λ owner. ExprProceeds tables number_of context listed setting.vars
      (word_notes tables.world tables.answers context name.at) (word_code tables owner name.at))
      same
      (record {
        read = goes_left tables number_of context listed
            (seen_in tables context.owner setting.vars)
            (mention_notes tables.world tables.answers context name.at)
            (use_notes context name.at
            (used_at tables.world tables.answers context no_base name.at))
            (read_word tables context.owner name.at)
            (sensed_read tables number_of all knows stand context listed setting.vars
            (sense tables.world setting name.id) name.at (seen_sense name) rows
            (word_kind tables number_of all knows stand context listed setting.vars name.at alone));
        inside = All-nil (BodyProceeds number_of);
      })

  -- an assignment to a word
  pub word_place : (name : Name)
      → RowsHold tables.answers (word_judged tables.world setting name).rows
      → (word_judged tables.world setting name).settable ≡ true
      → PlaceProceeds tables number_of context listed setting.vars
      (mention_notes tables.world tables.answers context name.at)
      (word_code tables setting.owner name.at)
  word_place name rows settable =
      subst (λ owner. PlaceProceeds tables number_of context listed setting.vars
      (mention_notes tables.world tables.answers context name.at) (word_code tables owner name.at))
      same
      (sensed_write tables number_of all knows stand context listed setting.vars
      (sense tables.world setting name.id) name.at (seen_sense name) rows settable)

  -- What is noted before an assignment to a word is noted of it.
  pub word_before : (name : Name) (note : Note)
      → Contains (mention_notes tables.world tables.answers context name.at) note
      → Contains (word_notes tables.world tables.answers context name.at) note
  word_before name note has =
      Contains-append_left (mention_notes tables.world tables.answers context name.at)
      (use_notes context name.at (used_at tables.world tables.answers context no_base name.at))
      note has

  -- `self`
  pub me_proceeds : (at : ℕ) → RowsHold tables.answers (me_judged setting.owner at).rows
      → ExprProceeds tables number_of context listed setting.vars
      (me_notes tables.world context at) (self_code tables setting.owner at)
  me_proceeds at rows =
      subst (λ owner. ExprProceeds tables number_of context listed setting.vars
      (me_notes tables.world context at) (self_code tables owner at)) same
      (record {
        read = by context.owner refl
            (subst (λ owner. RowsHold tables.answers (me_judged owner at).rows) (sym same) rows);
        inside = All-nil (BodyProceeds number_of);
      }) where
        by : (around : Option ℕ) → context.owner ≡ around
            → RowsHold tables.answers (me_judged around at).rows
            → Goes tables number_of context listed (seen_in tables context.owner setting.vars)
            (me_notes tables.world context at) (read_self tables context.owner at)
        by None is typed = absurd typed.0
        by (Some k) is typed =
            let below : k < length tables.world.shapes =
            subst (LayerWithin (length tables.world.shapes)) (outs-Named k)
            (out_within (length tables.world.shapes) (types.Named k)
            (knows.typed at (types.Named k) typed.0)) in
            let found = some_at tables.world.shapes k below in
            self_read tables number_of all knows stand context listed setting.vars
            (me_notes tables.world context at) at k found.0 is found.1
            (self_mentioned tables.world tables.answers context at found.0)
