-- On sets and the tokens that follow.
use Rattle.std.proofs.Common.{◌≡◌, ◌<◌, Bool, true, false, cond, ◌||◌}
use Rattle.std.proofs.Common.{◌⊎◌, inl, inr, List, [], ◌∷◌, ◌++◌, length, refl, sym, ◌∙◌}
use Rattle.std.proofs.Common.{arith, ap}
use Rattle.std.specs.Prelude.{Option, Some, None}
use Rattle.sw_token.specs.Spelling.{Spelled}
use Rattle.sw_grammar_forms.specs.Sets.{Set, has, starts, apart}
use Rattle.sw_grammar_forms.specs.Form.{Shape, choice}
use Rattle.sw_grammar_forms.specs.Relations.{head}
use Rattle.sw_grammar_forms.specs.Reader.{set_if}
use Rattle.sw_grammar_forms.proofs.ReaderLaws.{Follow, Outside}
use Rattle.sw_grammar_forms.proofs.SetLemmas.{has-append, has-apart}
use Rattle.sw_grammar_forms.proofs.FormLemmas.{StartsWith}

pub true_or_false : (b : Bool) → (b ≡ true) ⊎ (b ≡ false)
true_or_false true = inl refl
true_or_false false = inr refl

pub both_not : (b : Bool) → b ≡ true → b ≡ false → ⊥
both_not b h k = let clash : true ≡ false = sym h ∙ k in cc

-- A token of the second of two sets apart isn't in the first.
pub apart_back : (set other : Set) (token : Spelled) → apart set other ≡ true
    → has other token ≡ true
    → has set token ≡ false
apart_back set other token h k = elim (true_or_false (has set token)) [
  | inl is ↦ absurd (both_not (has other token) k (has-apart set other token h is))
  | inr is ↦ is
]

pub or_false : (a b : Bool) → (a || b) ≡ false → (a ≡ false) × (b ≡ false)
or_false true b h = absurd (cc)
or_false false b h = (refl, h)

pub outside_parts : (set other : Set) (token : Option Spelled) → Outside (set ++ other) token
    → Outside set token × Outside other token
outside_parts set other None h = (refl, refl)
outside_parts set other (Some token) h = or_false _ _ (sym (has-append set other token) ∙ h)

pub outside_both : (set other : Set) (token : Option Spelled) → Outside set token
    → Outside other token → Outside (set ++ other) token
outside_both set other None h k = refl
outside_both set other (Some token) h k =
    has-append set other token ∙ (ap (λ b. b || has other token) h ∙ k)

-- what may not follow turns: a token of another turn only where the state is open
abbrev pub AfterTurns : {S : Type 0} → Shape → (S → Bool) → Follow S
AfterTurns s is_open now token = Outside (s.ext ++ set_if (is_open now) s.first) token

pub outside_within : (set other : Set) (token : Option Spelled)
    → ((t : Spelled) → has set t ≡ true → has other t ≡ true) → Outside other token
    → Outside set token
outside_within set other None within h = refl
outside_within set other (Some token) within h = elim (true_or_false (has set token)) [
  | inl is ↦ absurd (both_not (has other token) (within token is) h)
  | inr is ↦ is
]

-- what may not follow one form after another
pub seq_ext : (b : Bool) (s_ext t_ext : Set) (token : Option Spelled)
    → Outside (cond b (t_ext ++ s_ext) t_ext) token
    → Outside t_ext token × (b ≡ true → Outside s_ext token)
seq_ext true s_ext t_ext token h = let both = outside_parts t_ext s_ext token h in
    (both.0, λ _. both.1)
seq_ext false s_ext t_ext token h = (h, λ k. absurd (let clash : false ≡ true = k in cc))

pub record ChoiceExt (s t : Shape) (token : Option Spelled) : Type 0 where
  pub left : Outside s.ext token
  pub right : Outside t.ext token
  pub not_left : t.nullable ≡ true → Outside s.first token

pub choice_ext : (s t short : Shape) (token : Option Spelled) → Outside (choice s t short).ext token
    → ChoiceExt s t token
choice_ext s t short token h = by_null t.nullable refl h
  where
    by_null : (b : Bool) → t.nullable ≡ b
        → Outside (cond b ((s.ext ++ t.ext) ++ s.first) (s.ext ++ t.ext)) token
        → ChoiceExt s t token
    by_null true is h = let outer = outside_parts (s.ext ++ t.ext) s.first token h in let inner =
        outside_parts s.ext t.ext token outer.0 in
        record { left = inner.0; right = inner.1; not_left = λ _. outer.1 }
    by_null false is h = let inner = outside_parts s.ext t.ext token h in
        record {
          left = inner.0;
          right = inner.1;
          not_left = λ k. absurd (both_not t.nullable k is);
        }

-- a spelling that isn't empty has a first token, of `first`
pub some_first : (s : Shape) (us rest : List Spelled) → s.nullable ≡ false → StartsWith s us
    → starts s.first (head (us ++ rest)) ≡ true
some_first s [] rest some h = absurd (both_not s.nullable h some)
some_first s (u ∷ us) rest some h = h

pub some_head : (s : Shape) (us rest : List Spelled) → s.nullable ≡ false → StartsWith s us
    → head (us ++ rest) ≡ head us
some_head s [] rest some h = absurd (both_not s.nullable h some)
some_head s (u ∷ us) rest some h = refl

pub some_length : (s : Shape) (us : List Spelled) → s.nullable ≡ false → StartsWith s us
    → 0 < length us
some_length s [] some h = absurd (both_not s.nullable h some)
some_length s (u ∷ us) some h = omega arith

-- the tokens after a form, where another follows it
pub fits_then : (s t : Shape) (us rest : List Spelled) → apart s.ext t.first ≡ true
    → StartsWith t us
    → (t.nullable ≡ true → Outside s.ext (head rest))
    → Outside s.ext (head (us ++ rest))
fits_then s t [] rest far h out = out h
fits_then s t (u ∷ us) rest far h out = apart_back s.ext t.first u far h

-- the second of two isn't begun by a token of the first
pub not_first_of : (set : Set) (t : Shape) (us rest : List Spelled) → apart set t.first ≡ true
    → StartsWith t us → (t.nullable ≡ true → Outside set (head rest))
    → starts set (head (us ++ rest)) ≡ false
not_first_of set t [] rest far h out = out h
not_first_of set t (u ∷ us) rest far h out = apart_back set t.first u far h
