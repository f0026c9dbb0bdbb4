-- The readers of one token, step by step as the cursor takes them.
use Rattle.std.proofs.Common.{◌≡◌, ℕ, zero, suc, ℤ, Bool, true, false, cond, not, ◌&&◌, List, []}
use Rattle.std.proofs.Common.{◌∷◌, length, drop, refl, sym, ◌∙◌, ap, subst, ◌<◌, ◌≤◌, ◌+◌, ◌-◌, arith}
use Rattle.std.proofs.Common.{All, slice_index_or}
use Rattle.std.specs.Prelude.{Option, Some, None, Ok, Err}
use Rattle.std.specs.Str.{IsUtf8, IsCharBoundary}
use Rattle.std.proofs.lemmas.List.{length-take}
use Rattle.std.proofs.lemmas.List.Elements.{All-head}
use Rattle.std.proofs.lemmas.Slice.Eq.{bytes_eq-Decides}
use Rattle.std.proofs.lemmas.Str.{IsCharBoundary-after_ascii}
use Rattle.sw_token.specs.declared.Fixity.{Fixity}
use Rattle.sw_token.specs.declared.Fixity.TheVariants as fixities
use Rattle.sw_token.specs.declared.Kind.{Kind}
use Rattle.sw_token.specs.declared.Kind.TheVariants as kinds
use Rattle.sw_token.specs.Kinds.{kind_of}
use Rattle.sw_token.specs.Spelling.{Spelled, IsReadable, spelled, spelling_of}
use Rattle.sw_token.specs.declared.Token.{Token}
use Rattle.sw_grammar_forms.specs.Sets.{Set, has, starts, quoted, is_quoted, is_quoted_operator, standing}
use Rattle.sw_grammar_forms.specs.Sets.{word, integer, attribute, not_first, is_integer}
use Rattle.sw_grammar_forms.specs.Form.{Terminal}
use Rattle.sw_grammar_forms.specs.Quotes.{quote, quote_on_line, an_integer, int_value}
use Rattle.sw_grammar_forms.specs.Relations.{head, is_first_on_line}
use Rattle.sw_grammar_forms.specs.Reader.{Answer, refused, pure, and_then, then_read, take_if, next}
use Rattle.sw_grammar_forms.specs.Reader.{opening, skipping}
use Rattle.sw_grammar_forms.specs.Reader.Fault.{unexpected, too_deep}
use Rattle.sw_grammar_forms.specs.Outcome.{Gives, Takes, has_text, text_of, stands, names, is_literal}
use Rattle.sw_grammar_forms.specs.Outcome.{is_attribute, value_if, literal}
use Rattle.sw_grammar_forms.specs.declared.stop.Stop.{Stop}
use Rattle.sw_grammar_forms.specs.declared.stop.Stop.TheVariants as stops
use Rattle.sw_grammar_forms.proofs.SetLaws.{has-quoted, has-not_first_is, has-word, has-integer}
use Rattle.sw_grammar_forms.proofs.KindSets.{has-attribute, has-standing, attribute_text}

pub stopped : {A : Type 0} (answer : Answer A) (stop : Stop) (count : ℕ) (left : List Spelled)
    → stop ≡ stops.Unexpected count → answer ≡ Err (unexpected count) → Gives answer (Err stop) left
stopped answer stop count left is e = subst (λ s. Gives answer (Err s) left) (sym is) e

pub next_refuses : {A : Type 0} (t : Terminal A) (ts : List Spelled)
    → starts t.set (head ts) ≡ false → next t ts ≡ Err (unexpected (length ts))
next_refuses t [] h = refl
next_refuses t (token ∷ ts) h = ap (λ b. take_if b (t.value token) ts) h

-- of a token whose value is its position
pub next_takes : (set : Set) (text : List ℕ) (fixity : Fixity) (ts : List Spelled) (at : ℕ)
    (left : List Spelled)
    → starts set (head ts) ≡ true → Takes ts at left
    → next (record { set = set; value = λ token. token.at; text = text; fixity = fixity }) ts ≡ Ok
    (at, left)
next_takes set text fixity [] at left h takes = absurd takes
next_takes set text fixity (token ∷ ts) at left h takes =
    ap (λ b. take_if b token.at ts) h
    ∙ (ap (λ us. Ok (token.at, us)) (sym takes.1) ∙ ap (λ n. Ok (n, left)) (sym takes.0))

pub sees_quoted : (text : List ℕ) (token : Option Spelled) → is_quoted text ≡ true
    → has_text text token ≡ starts (quoted text) token
sees_quoted text None h = refl
sees_quoted text (Some token) h = sym (has-quoted text token h)

-- a token that is seen by its text has it
pub seen_text : (text : List ℕ) (token : Option Spelled) → is_quoted text ≡ true
    → starts (quoted text) token ≡ true → text_of token ≡ text
seen_text text None h sees = absurd (cc)
seen_text text (Some token) h sees =
    (bytes_eq-Decides token.text text).0 (sym (has-quoted text token h) ∙ sees)

-- a token of a source is no longer than its span
span_holds : (source : List ℕ) (token : Token) → IsReadable source token
    → token.span.start + length (spelled source token).text ≤ token.span.end
span_holds source token is = omega (
  arith,
  is.ordered,
  length-take (token.span.end - token.span.start) (drop token.span.start source),
)

-- the first of some tokens ends below a bound of its span's end
pub first_within : (source : List ℕ) (tokens : List Token) (other : Token) (seen : List Spelled)
    (bound : ℕ) → seen ≡ spelling_of source tokens → All (IsReadable source) tokens
    → 0 < length seen → (slice_index_or tokens 0 other).span.end < bound
    → (slice_index_or tokens 0 other).span.start + length (text_of (head seen)) < bound
first_within source [] other seen bound same all some less =
    absurd (omega (arith, some, ap length same))
first_within source (token ∷ tokens) other seen bound same all some less =
    subst (λ some. token.span.start + length (text_of (head some)) < bound) (sym same)
    (omega (arith, span_holds source token (All-head (IsReadable source) token tokens all), less))

pub starts_word : (token : Option Spelled) → names token ≡ starts word token
starts_word None = refl
starts_word (Some token) = sym (has-word token)

pub starts_integer : (token : Option Spelled) → is_literal token ≡ starts integer token
starts_integer None = refl
starts_integer (Some token) = sym (has-integer token)

pub starts_attribute : (token : Option Spelled) → is_attribute token ≡ starts attribute token
starts_attribute None = refl
starts_attribute (Some token) = sym (has-attribute token)

pub starts_standing : (fixity : Fixity) (text : List ℕ) (token : Option Spelled)
    → is_quoted_operator text ≡ true
    → (stands fixity token && has_text text token) ≡ starts (standing fixity text) token
starts_standing fixity text None h = refl
starts_standing fixity text (Some token) h = sym (has-standing fixity text token h)

pub first_line : (set : Set) (token : Option Spelled) → is_first_on_line token ≡ true
    → starts (not_first set) token ≡ false
first_line set None h = refl
first_line set (Some token) h = has-not_first_is set token
    ∙ (ap (λ b. has set token && not b) h ∙ never (has set token))
  where
    never : (b : Bool) → (b && false) ≡ false
    never true = refl
    never false = refl

pub within_line : (set : Set) (token : Option Spelled) → is_first_on_line token ≡ false
    → starts (not_first set) token ≡ starts set token
within_line set None h = refl
within_line set (Some token) h = has-not_first_is set token
    ∙ (ap (λ b. has set token && not b) h ∙ same (has set token))
  where
    same : (b : Bool) → (b && true) ≡ b
    same true = refl
    same false = refl

pub on_line_refuses : (text : List ℕ) (ts : List Spelled) → is_first_on_line (head ts) ≡ true
    → next (quote_on_line text) ts ≡ Err (unexpected (length ts))
on_line_refuses text ts h =
    next_refuses (quote_on_line text) ts (first_line (quoted text) (head ts) h)

pub on_line_is : (text : List ℕ) (ts : List Spelled) → is_first_on_line (head ts) ≡ false
    → next (quote_on_line text) ts ≡ next (quote text) ts
on_line_is text [] h = refl
on_line_is text (token ∷ ts) h =
    ap (λ b. take_if b token.at ts) (within_line (quoted text) (Some token) h)

pub opening_on_line_refuses : (text : List ℕ) (depth : ℕ) (ts : List Spelled)
    → is_first_on_line (head ts) ≡ true
    → opening depth (quote_on_line text) ts ≡ Err (unexpected (length ts))
opening_on_line_refuses text zero ts h =
    ap (λ b. cond b (Err (too_deep (length ts))) (refused ts))
    (first_line (quoted text) (head ts) h)
opening_on_line_refuses text (suc depth) ts h = on_line_refuses text ts h

pub opening_on_line_is : (text : List ℕ) (depth : ℕ) (ts : List Spelled)
    → is_first_on_line (head ts) ≡ false
    → opening depth (quote_on_line text) ts ≡ opening depth (quote text) ts
opening_on_line_is text zero ts h =
    ap (λ b. cond b (Err (too_deep (length ts))) (refused ts))
    (within_line (quoted text) (head ts) h)
opening_on_line_is text (suc depth) ts h = on_line_is text ts h

-- After the `@` of an attribute its text may be cut.
pub attribute_cut : (token : Option Spelled) → IsUtf8 (text_of token)
    → starts attribute token ≡ true → IsCharBoundary (text_of token) 1
attribute_cut None utf8 h = absurd (cc)
attribute_cut (Some token) utf8 h =
    let is = attribute_text token.text (sym (has-attribute token) ∙ h) in
    IsCharBoundary-after_ascii token.text 0 utf8 (omega (arith, ap length is.1))
    (rw (is.1) (omega arith))

pub attribute_some : (ts : List Spelled) → starts attribute (head ts) ≡ true → 0 < length ts
attribute_some [] h = absurd (cc)
attribute_some (token ∷ ts) h = omega arith

integer_or_none : (kind : Kind) → value_if kind ≡ None → is_integer kind ≡ false
integer_or_none kinds.Word h = refl
integer_or_none kinds.Underscore h = refl
integer_or_none (kinds.Key _) h = refl
integer_or_none kinds.At h = refl
integer_or_none (kinds.Int _) h = absurd (cc)
integer_or_none (kinds.Op _) h = refl
integer_or_none (kinds.Mark _) h = refl

integer_value : (kind : Kind) (value : ℤ) → value_if kind ≡ Some value → (is_integer kind ≡ true)
    × (int_value kind ≡ value)
integer_value kinds.Word value h = absurd (cc)
integer_value kinds.Underscore value h = absurd (cc)
integer_value (kinds.Key _) value h = absurd (cc)
integer_value kinds.At value h = absurd (cc)
integer_value (kinds.Int _) value h = (refl, cc)
integer_value (kinds.Op _) value h = absurd (cc)
integer_value (kinds.Mark _) value h = absurd (cc)

pub integer_refuses : (ts : List Spelled) → literal (head ts) ≡ None
    → next an_integer ts ≡ Err (unexpected (length ts))
integer_refuses [] h = refl
integer_refuses (token ∷ ts) h =
    next_refuses an_integer (token ∷ ts)
    (has-integer token ∙ integer_or_none (kind_of token.text) h)

pub integer_takes : (value : ℤ) (ts : List Spelled) (at : ℕ) (left : List Spelled)
    → literal (head ts) ≡ Some value → Takes ts at left
    → next an_integer ts ≡ Ok ((at, value), left)
integer_takes value [] at left h takes = absurd takes
integer_takes value (token ∷ ts) at left h takes =
    let is = integer_value (kind_of token.text) value h in
    ap (λ b. take_if b (token.at, int_value (kind_of token.text)) ts) (has-integer token ∙ is.0)
    ∙ (ap (λ v. Ok ((token.at, v), ts)) is.1
    ∙ (ap (λ us. Ok ((token.at, value), us)) (sym takes.1)
    ∙ ap (λ n. Ok ((n, value), left)) (sym takes.0)))

pub skip_takes : (text : List ℕ) (ts : List Spelled) (at : ℕ) (left : List Spelled)
    → starts (quoted text) (head ts) ≡ true → Takes ts at left
    → skipping text ts ≡ Ok (true, left)
skip_takes text ts at left h takes =
    ap (λ b. cond b (then_read (next (quote text)) (λ _. pure true) ts) (Ok (false, ts))) h
    ∙ ap (λ r. and_then r (λ x. Ok (true, x.1)))
    (next_takes (quoted text) text fixities.None ts at left h takes)

pub skip_passes : (text : List ℕ) (ts : List Spelled) → starts (quoted text) (head ts) ≡ false
    → skipping text ts ≡ Ok (false, ts)
skip_passes text ts h = ap
    (λ b. cond b (then_read (next (quote text)) (λ _. pure true) ts) (Ok (false, ts))) h
