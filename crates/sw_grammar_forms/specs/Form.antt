-- Grammars as data: a form says how the spellings of a value are put together. Its index, the
-- shape, says what may come first and what may come after; `ok` in it is the condition under which
-- one token decides each choice, computed along with the form.
use Rattle.std.specs.Prelude.{ℕ, suc, nat_le, max, Bool, true, false, not, ◌&&◌, ◌||◌}
use Rattle.std.specs.Prelude.{if◌then◌else◌, List, [], ◌++◌, codes}
use Rattle.sw_token.specs.declared.Fixity.{Fixity}
use Rattle.sw_token.specs.declared.Fixity.TheVariants as fixities
use Rattle.sw_token.specs.Spelling.{Spelled}
use Rattle.sw_grammar_forms.specs.Sets.{Set, is_sample, class_of, is_in, quoted, apart, within, not_first}
use Rattle.sw_grammar_forms.specs.Sets.{first_only, word}

-- One token of a set, and the value that it gives.
pub record Terminal (A : Type 0) : Type 0 where
  pub set : Set
  pub value : Spelled → A
  -- an example: a token of the set
  pub text : List ℕ
  pub fixity : Fixity

-- whether the example is in the set, where it is the first on its line or isn't
abbrev pub shows : Set → List ℕ → Fixity → Bool → Bool
shows set text fixity first = is_in set (class_of text fixity first)

-- any word that names something
abbrev pub a_word : {A : Type 0} → (Spelled → A) → Terminal A
a_word value = record { set = word; value = value; text = codes "print"; fixity = fixities.None }

-- What is known of the spellings of a form.
pub record Shape : Type 0 where
  -- whether no tokens may be one
  pub nullable : Bool
  -- the tokens that may begin one
  pub first : Set
  -- the tokens with which one may go on where it could end
  pub ext : Set
  -- whether the form is read by looking at one token at each choice
  pub ok : Bool
  -- whether a short one has no token
  pub bare : Bool
  -- how many nests a short one opens
  pub height : ℕ
  -- whether there is a short one that begins a line, and one that doesn't
  pub begins_line : Bool
  pub stays_on_line : Bool

abbrev pub empty : Shape
empty = record {
  nullable = true;
  first = [];
  ext = [];
  ok = true;
  bare = true;
  height = 0;
  begins_line = true;
  stays_on_line = true;
}

abbrev pub one : {A : Type 0} → Terminal A → Shape
one t = record {
  nullable = false;
  first = t.set;
  ext = [];
  ok = is_sample t.text && (shows t.set t.text t.fixity true || shows t.set t.text t.fixity false);
  bare = false;
  height = 0;
  begins_line = shows t.set t.text t.fixity true;
  stays_on_line = shows t.set t.text t.fixity false;
}

-- whether there is a short spelling of one of the two ways
abbrev pub is_usable : Shape → Bool
is_usable s = s.begins_line || s.stays_on_line

-- one after another
abbrev pub seq : Shape → Shape → Shape
seq s t = record {
  nullable = s.nullable && t.nullable;
  first = if s.nullable then s.first ++ t.first else s.first;
  ext = if t.nullable then t.ext ++ s.ext else t.ext;
  ok = s.ok && t.ok && apart s.ext t.first && is_usable (if s.bare then t else s);
  bare = s.bare && t.bare;
  height = max s.height t.height;
  begins_line = (if s.bare then t else s).begins_line;
  stays_on_line = (if s.bare then t else s).stays_on_line;
}

-- whether the first of two is chosen for a short spelling
abbrev pub is_shorter : Shape → Shape → Bool
is_shorter s t = not t.bare && nat_le s.height t.height

-- one of two, where `short` is the one that has a short spelling
abbrev pub choice : Shape → Shape → Shape → Shape
choice s t short = record {
  nullable = t.nullable;
  first = s.first ++ t.first;
  ext = if t.nullable then s.ext ++ t.ext ++ s.first else s.ext ++ t.ext;
  ok = s.ok && t.ok && not s.nullable && apart s.first t.first && is_usable short;
  bare = short.bare;
  height = short.height;
  begins_line = short.begins_line;
  stays_on_line = short.stays_on_line;
}

abbrev pub alt : Shape → Shape → Shape
alt s t = choice s t (if is_shorter s t then s else t)

-- any number of turns
abbrev pub star : Shape → Shape
star s = record {
  nullable = true;
  first = s.first;
  ext = s.ext ++ s.first;
  ok = s.ok && not s.nullable && apart s.ext s.first;
  bare = true;
  height = 0;
  begins_line = true;
  stays_on_line = true;
}

-- a token that opens a nest, and what stands in it
abbrev pub nested : {A : Type 0} → Terminal A → Shape → Shape
nested t s = record {
  nullable = false;
  first = t.set;
  ext = s.ext;
  ok = (one t).ok && s.ok;
  bare = false;
  height = suc s.height;
  begins_line = shows t.set t.text t.fixity true;
  stays_on_line = shows t.set t.text t.fixity false;
}

-- Turns as long as the state is open, one at least, the last of which may be of another form. So
-- none may go on with what a turn begins with.
abbrev pub ending : Bool → Shape → Shape → Shape
ending is_open s t = record {
  nullable = false;
  first = s.first ++ t.first;
  ext = s.ext ++ t.ext;
  ok = is_open && (s.ok && t.ok) && (not s.nullable && not t.nullable) && not t.bare
      && (apart s.ext s.first && apart s.ext t.first) && apart s.first t.first && is_usable t;
  bare = false;
  height = t.height;
  begins_line = t.begins_line;
  stays_on_line = t.stays_on_line;
}

abbrev pub semicolon : Set
semicolon = quoted (codes ";")

-- whether items of this shape can be distinguished, each ended by a `;` or followed by one that
-- begins a line
abbrev pub is_item : Shape → Bool
is_item s =
    s.ok && not s.nullable && (s.begins_line && not s.bare) && apart s.ext (first_only s.first)
    && apart s.ext semicolon && apart s.first semicolon

-- what may follow such items is none of these
abbrev pub items_ext : Shape → Set
items_ext s = s.ext ++ semicolon ++ s.first

-- any number of items
abbrev pub listed : Shape → Shape
listed s = record {
  nullable = true;
  first = s.first;
  ext = items_ext s;
  ok = is_item s;
  bare = true;
  height = 0;
  begins_line = true;
  stays_on_line = true;
}

-- one item at least
abbrev pub listed_some : Shape → Shape
listed_some s = record {
  nullable = false;
  first = s.first;
  ext = items_ext s;
  ok = is_item s;
  bare = false;
  height = s.height;
  begins_line = s.begins_line;
  stays_on_line = s.stays_on_line;
}

-- what may have to begin a line
abbrev pub started : Shape → Shape
started s = record {
  nullable = false;
  first = s.first;
  ext = s.ext;
  ok = s.ok && not s.nullable && (s.begins_line && not s.bare);
  bare = false;
  height = s.height;
  begins_line = s.begins_line;
  stays_on_line = false;
}

-- what doesn't begin a line
abbrev pub inline : Shape → Shape
inline s = record {
  nullable = false;
  first = not_first s.first;
  ext = s.ext;
  ok = s.ok && not s.nullable && (s.stays_on_line && not s.bare);
  bare = false;
  height = s.height;
  begins_line = false;
  stays_on_line = s.stays_on_line;
}

-- What a rule claims of its form: a shape but for `ok`.
pub record Claim : Type 0 where
  pub nullable : Bool
  pub first : Set
  pub ext : Set
  pub bare : Bool
  pub height : ℕ
  pub begins_line : Bool
  pub stays_on_line : Bool

-- a claim that covers the shape of a form
abbrev pub claimed : Shape → Claim → Shape
claimed s t = record {
  nullable = t.nullable;
  first = t.first;
  ext = t.ext;
  ok = s.ok && (if s.nullable then t.nullable else not t.nullable) && within s.first t.first
      && within s.ext t.ext && (if s.bare then t.bare else not t.bare)
      && nat_le s.height t.height && (not t.begins_line || s.begins_line)
      && (not t.stays_on_line || s.stays_on_line) && (t.begins_line || t.stays_on_line);
  bare = t.bare;
  height = t.height;
  begins_line = t.begins_line;
  stays_on_line = t.stays_on_line;
}

-- the shape that a rule claims, where something is spelled and may begin a line or not
abbrev pub solid : Set → Set → ℕ → Shape
solid first ext height = record {
  nullable = false;
  first = first;
  ext = ext;
  ok = true;
  bare = false;
  height = height;
  begins_line = true;
  stays_on_line = true;
}

-- `N` names the nests: what stands after a token that opens one, up to the token that closes it.
-- `El` gives the values of a nest, and `shape_of` its shape.
module _ {N : Type 0} (El : N → Type 0) (shape_of : N → Shape) where
  pub data Form : Shape → Type 0 → Type 1 where
    -- no token; the value is this
    done : {A : Type 0} → A → Form empty A
    terminal : {A : Type 0} → (t : Terminal A) → Form (one t) A
    -- a word that names something and is none of these texts
    word_but : {A : Type 0} → List (List ℕ) → (value : Spelled → A) → Form (one (a_word value)) A
    -- one form after another, which may depend on the value of the first
    followed : {A B : Type 0} {s t : Shape} → Form s A → (A → Form t B) → Form (seq s t) B
    -- the first of two where the next token begins it
    either : {A : Type 0} {s t : Shape} → Form s A → Form t A → Form (alt s t) A
    -- turns from a state on, as long as the state is open and the next token begins one
    turns : {S : Type 0} {s : Shape} → (S → Bool) → S → (S → Form s S) → Form (star s) S
    -- the same, where an open state has to go on: with a turn, or with the last of another form
    until : {S : Type 0} {s t : Shape} (is_open : S → Bool) (state : S) → (S → Form s S)
        → (S → Form t S) → Form (ending (is_open state) s t) S
    -- Items after those of a state, which says whether a `;` ended the last. Where none did, the
    -- next begins a line.
    more_items : {A : Type 0} {s : Shape} → List A × Bool → Form s A
        → Form (listed s) (List A × Bool)
    -- one such item at least
    some_items : {A : Type 0} {s : Shape} → Form s A → Form (listed_some s) (List A × Bool)
    -- the same as `either`, but the first only where a condition on earlier values holds
    when : {A : Type 0} {s t : Shape} → Bool → Form s A → Form t A → Form (choice s t t) A
    -- the same as `either`, but the second only where a condition on earlier values holds
    unless : {A : Type 0} {s t : Shape} → Bool → Form s A → Form t A → Form (choice s t s) A
    -- a token that opens a nest, and the nest
    nest : {A : Type 0} → (t : Terminal A) → (n : N) → Form (nested t (shape_of n)) (A × El n)
    -- where it is asked for, the first token begins a line
    line_start : {A : Type 0} {s : Shape} → Bool → Form s A → Form (started s) A
    -- the first token doesn't begin a line
    same_line : {A : Type 0} {s : Shape} → Form s A → Form (inline s) A
    -- a rule, with its claim
    shaped : {A : Type 0} {s : Shape} → (claim : Claim) → Form s A → Form (claimed s claim) A
