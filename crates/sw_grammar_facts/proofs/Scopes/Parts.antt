-- Tokens pay for each of their places twice, for a key and for one of a scope. So what a part of the
-- tokens pays lies between where it begins and where it ends.
use Rattle.std.proofs.Common.{◌≡◌, ℕ, zero, suc, ◌+◌, ◌≤◌, ◌<◌, ◌⊎◌, inl, inr, Bool, true, false}
use Rattle.std.proofs.Common.{List, [], ◌∷◌, Option, None, Some}
use Rattle.std.proofs.Common.{Contains, length, max, refl, arith}
use Rattle.std.proofs.lemmas.Bool.{cases_lt}
use Rattle.std.proofs.lemmas.Grind.{common_steps}
use Rattle.std.specs.List.{AllByRecursion}
use Rattle.std.specs.Prelude.{if◌then◌else◌}
use Rattle.sw_token.proofs.Steps.{some_token}
use Rattle.sw_token.specs.Spelling.{Spelled, StandApart}
use Rattle.sw_grammar_forms.proofs.Rising.{HasTokenText, end_of}
use Rattle.sw_tree.proofs.Counting.{Weight, count, hits, hits_same, in_all, in_all-append, in_all-cons}
use Rattle.sw_tree.proofs.Counting.{in_all-flat_map, in_all-map, in_all-nil, in_option}
use Rattle.sw_tree.proofs.Counting as counting
use Rattle.sw_tree.proofs.Members.{in_map}
use Rattle.sw_tree.specs.Scopes.{Scoped, before}
use Rattle.sw_tree.specs.declared.name.Name.{Name}
use Rattle.sw_grammar.specs.Around.{index_in}
use Rattle.sw_grammar_facts.proofs.KeysDiffer.{span}
use Rattle.sw_grammar_facts.proofs.Owning.{Part, Tally}
use Rattle.sw_grammar_facts.proofs.Questions.{besides, in_all-less, is_question}
use Rattle.sw_grammar_facts.proofs.Scopes.Weights.{Less, Lies, good_declaring, less_both, names_hit}
use Rattle.sw_grammar_facts.proofs.Scopes.Weights.{of_before, one_unless, pairs_fault, pairs_less}
use Rattle.sw_grammar_facts.proofs.Scopes.Weights.{pairs_most, weigh, weighs_good, weighs_key}
use Rattle.sw_grammar_facts.proofs.Scopes.Weights.{weighs_pairs}
use Rattle.sw_grammar_facts.proofs.Scopes.Weights as scopes
use Rattle.sw_grammar_facts.proofs.Spread.{spread}
use Rattle.sw_grammar_facts.proofs.Scopes.Ids.{is_known, is_whole, known_left, known_right}

-- A token has each of its places for a key and for a key of a scope.
abbrev pub two : Spelled → Weight
two token k = span token k + span token k

here_past : (token : Spelled) (k : ℕ) → token.at + max 1 (length token.text) ≤ k → span token k ≡ 0
unfolding counting.here
here_past token k past = grind (arith, common_steps)

here_before : (token : Spelled) (k : ℕ) → k < token.at → span token k ≡ 0
unfolding counting.here
here_before token k early = grind (arith, common_steps)

ends : (from : ℕ) (tokens : List Spelled) → StandApart from tokens → from ≤ end_of from tokens
ends from [] apart = omega arith
ends from (token ∷ tokens) apart =
    let one = apart.0 in
    omega (arith, ends (token.at + length token.text) tokens apart.1)

-- tokens pay nothing for what stands elsewhere
paid_early : (from : ℕ) (tokens : List Spelled) (k : ℕ) → AllByRecursion HasTokenText tokens
    → StandApart from tokens → k < from → in_all two tokens k ≡ 0
unfolding in_all
paid_early from [] k texts apart early = refl
paid_early from (token ∷ tokens) k texts apart early =
    let one = apart.0 in
    omega (
      arith,
      here_before token k (omega arith),
      paid_early (token.at + length token.text) tokens k texts.1 apart.1 (omega arith),
    )

pub paid_late : (from : ℕ) (tokens : List Spelled) (k : ℕ) → AllByRecursion HasTokenText tokens
    → StandApart from tokens → end_of from tokens ≤ k → in_all two tokens k ≡ 0
unfolding in_all
paid_late from [] k texts apart late = refl
paid_late from (token ∷ tokens) k texts apart late =
    let end = token.at + length token.text in
    omega (
      arith,
      here_past token k (omega (arith, ends end tokens apart.1, some_token true token.text [] texts.0)),
      paid_late end tokens k texts.1 apart.1 late,
    )

pub in_all-sum : {X : Type 0} (f g : X → Weight) (xs : List X) (k : ℕ)
    → in_all (λ x k. f x k + g x k) xs k ≡ in_all f xs k + in_all g xs k
unfolding in_all
in_all-sum f g [] k = refl
in_all-sum f g (x ∷ xs) k = omega (arith, in_all-sum f g xs k)

pub in_option-sum : {X : Type 0} (f g : X → Weight) (x : Option X) (k : ℕ)
    → in_option (λ x k. f x k + g x k) x k ≡ in_option f x k + in_option g x k
unfolding in_option
in_option-sum f g None k = refl
in_option-sum f g (Some x) k = refl

besides_less : (token : Spelled) (k : ℕ) → besides two token k ≤ two token k
unfolding besides
besides_less token k = by (is_question token) where
  by : (b : Bool) → (if b then 0 else two token k) ≤ two token k
  by true = omega arith
  by false = omega arith

pub spread_two : (n at k : ℕ)
    → spread (λ at k. hits at k + hits at k) n at k ≡ spread hits n at k + spread hits n at k
unfolding spread
spread_two zero at k = refl
spread_two (suc n) at k = omega (arith, spread_two n (suc at) k)

module _ (texts : List (List ℕ)) where
  abbrev pub whole : ℕ → Bool
  whole = is_whole texts

  abbrev pub id_of : List ℕ → ℕ
  id_of = index_in texts

  abbrev pub tally : Tally
  tally = record {
    of_token = besides two;
    known = is_known texts;
    known_left = known_left texts;
    known_right = known_right texts;
  }

  -- What a part of the tokens pays lies in it.

  pub part_none : {from to : ℕ} {w : Weight} → Part tally from to w → (k : ℕ) → (k < from) ⊎ (to ≤ k)
      → w k ≡ 0
  part_none {from} {to} {w} part k elsewhere = by elsewhere where
    less : w k ≤ in_all two part.tokens k
    less = omega (arith, part.paid k, in_all-less (besides two) two besides_less part.tokens k)

    by : (k < from) ⊎ (to ≤ k) → w k ≡ 0
    by (inl early) =
        omega (arith, less, paid_early from part.tokens k part.texts part.apart early)
    by (inr late) =
        omega (
          arith,
          less,
          paid_late from part.tokens k part.texts part.apart
              (omega (arith, part.end)),
        )

  pub inside_part : {from to : ℕ} {w : Weight} → Part tally from to w → (k : ℕ) → 1 ≤ w k
      → (from ≤ k) × (k < to)
  inside_part {from} {to} {w} part k some = (low (cases_lt k from), high (cases_lt k to)) where
    low : (k < from) ⊎ (from ≤ k) → from ≤ k
    low (inl early) = absurd (omega (arith, some, part_none part k (inl early)))
    low (inr past) = past

    high : (k < to) ⊎ (to ≤ k) → k < to
    high (inl before) = before
    high (inr late) = absurd (omega (arith, some, part_none part k (inr late)))

  pub lies_of : {from to : ℕ} {w : Weight} (scoped : Scoped) → ((k : ℕ) → weigh whole scoped k ≤ w k)
      → Part tally from to w → Lies whole from to scoped
  lies_of {to = to} scoped less part = record {
    inside = λ key has. inside_part part key
        (let one = less key in omega (arith, weighs_key whole scoped key has));
    good = weighs_good whole scoped to
        (let one = less to in omega (arith, part_none part to (inr (omega arith))));
  }

  pub names_before : {from to : ℕ} {w : Weight} (names : List Name)
      → ((k : ℕ) → names_hit whole names k ≤ w k) → Part tally from to w
      → (name : Name) → Contains names name → name.at < to
  names_before names less part name has =
      let hit = scopes.hit_by whole names name.at
      (in_map (λ (name : Name). name.at) names name has) in
      (inside_part part name.at (let one = less name.at in omega (arith, hit))).1
