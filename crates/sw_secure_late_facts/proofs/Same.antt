-- Lists that have the same colours, and what depends on no more of a list than that.
use Rattle.std.proofs.Common.{◌≡◌, ℕ, List, [], ◌∷◌, ◌++◌, flat_map, Contains, refl, sym}
use Rattle.std.proofs.Common.{subst, inl, inr}
use Rattle.std.proofs.lemmas.List.{map-append}
use Rattle.std.proofs.lemmas.List.Elements.{Contains-append_cases}
use Rattle.std.proofs.lemmas.List.Elements.{Contains-append_left, Contains-append_right}
use Rattle.sw_list.proofs.Members.{first_or_later, in_one, none_in}
use Rattle.sw_color_rules.specs.declared.colors.Palette.{Palette}
use Rattle.sw_late_facts.specs.Hues.{hue}
use Rattle.sw_owner_facts.specs.Colours.{Colour, OfJob}
use Rattle.sw_owner_facts.specs.View.{Frame as Spot}
use Rattle.sw_view_facts.specs.Views.{Colours}
use Rattle.sw_secure_facts.specs.Painting.{IsOwn, MayUnite, Unites}
use Rattle.sw_hue_facts.specs.Hued.{SameColours, hues_of}

-- ---- the same colours
pub same_refl : (cs : List Colour) → SameColours cs cs
same_refl cs = record { to = λ c has. has; from = λ c has. has }

pub same_is : (cs ds : List Colour) → cs ≡ ds → SameColours cs ds
same_is cs ds is = subst (SameColours cs) is (same_refl cs)

pub same_then : (cs ds es : List Colour) → SameColours cs ds → SameColours ds es
    → SameColours cs es
same_then cs ds es one other = record {
  to = λ c has. other.to c (one.to c has);
  from = λ c has. one.from c (other.from c has);
}

abbrev AreAmong : List Colour → List Colour → Type 0
AreAmong cs ds = (c : Colour) → Contains cs c → Contains ds c

among_both : (cs ds es fs : List Colour) → AreAmong cs es → AreAmong ds fs
    → AreAmong (cs ++ ds) (es ++ fs)
among_both cs ds es fs one other c has = elim (Contains-append_cases cs ds c has) [
  | inl first ↦ Contains-append_left es fs c (one c first)
  | inr second ↦ Contains-append_right es fs c (other c second)
]

pub same_both : (cs ds es fs : List Colour) → SameColours cs es → SameColours ds fs
    → SameColours (cs ++ ds) (es ++ fs)
same_both cs ds es fs one other = record {
  to = among_both cs ds es fs one.to other.to;
  from = among_both es fs cs ds one.from other.from;
}

pub same_more : (c d : Colour) (cs ds : List Colour) → c ≡ d → SameColours cs ds
    → SameColours (c ∷ cs) (d ∷ ds)
same_more c d cs ds is same =
    same_both (c ∷ []) cs (d ∷ []) ds
    (subst (λ e. SameColours (c ∷ []) (e ∷ [])) is (same_refl (c ∷ []))) same

pub same_flat : {X : Type 0} (f g : X → List Colour) (xs : List X)
    → ((x : X) → SameColours (f x) (g x)) → SameColours (flat_map f xs) (flat_map g xs)
same_flat f g [] same = same_refl []
same_flat f g (x ∷ xs) same =
    same_both (f x) (flat_map f xs) (g x) (flat_map g xs) (same x) (same_flat f g xs same)

-- by hue
pub hues_both : (p : Palette) (ns ms : List ℕ)
    → hues_of p (ns ++ ms) ≡ hues_of p ns ++ hues_of p ms
hues_both p ns ms = map-append (hue p) ns ms

-- the hues of two lists, one after the other
pub same_hues : (p : Palette) (ns ms : List ℕ) (cs ds : List Colour)
    → SameColours (hues_of p ns) cs → SameColours (hues_of p ms) ds
    → SameColours (hues_of p (ns ++ ms)) (cs ++ ds)
same_hues p ns ms cs ds one other =
    subst (λ l. SameColours l (cs ++ ds)) (sym (hues_both p ns ms))
    (same_both (hues_of p ns) (hues_of p ms) cs ds one other)

pub same_hues_of : {X : Type 0} (p : Palette) (f : X → List ℕ) (g : X → List Colour) (xs : List X)
    → ((x : X) → SameColours (hues_of p (f x)) (g x))
    → SameColours (hues_of p (flat_map f xs)) (flat_map g xs)
same_hues_of p f g [] same = same_refl []
same_hues_of p f g (x ∷ xs) same =
    same_hues p (f x) (flat_map f xs) (g x) (flat_map g xs) (same x) (same_hues_of p f g xs same)

pub in_hues : (p : Palette) (ns : List ℕ) (n : ℕ) → Contains ns n → Contains (hues_of p ns)
    (hue p n)
in_hues p [] n has = absurd (none_in n has)
in_hues p (m ∷ ms) n has = elim (first_or_later m ms n has) [
  | inl same ↦ Contains-append_left (hue p m ∷ []) (hues_of p ms) (hue p n)
      (subst (λ k. Contains (hue p m ∷ []) (hue p k)) same (in_one (hue p m)))
  | inr later ↦ Contains-append_right (hue p m ∷ []) (hues_of p ms) (hue p n) (in_hues p ms n later)
]

-- ---- colours that become one
pub unites_same : (job : ℕ) (joined other : List Colour) (colours after : Colours)
    → SameColours joined other → Unites job joined colours after → Unites job other colours after
unites_same job joined other colours after same unites = record {
  kept = unites.kept;
  numbers = unites.numbers;
  is = unites.is;
  among = λ c has. same.to unites.kept (unites.among c (same.from c has));
  others = λ c has. unites.others c (same.from c has);
  only = λ n has. same.to (OfJob job n) (unites.only n has);
}

pub nothing_in : {X : Type 0} (cs : List X) → ((c : X) → Contains cs c → ⊥) → cs ≡ []
nothing_in [] empty = refl
nothing_in (c ∷ cs) empty = absurd (empty c (Contains-append_left (c ∷ []) cs c (in_one c)))

pub may_unite_same : (q : Spot) (joined other : List Colour) → SameColours joined other
    → MayUnite q joined → MayUnite q other
may_unite_same q joined other same (inl none) =
    inl (nothing_in other (λ c has. none_in c (subst (λ l. Contains l c) none (same.from c has))))
may_unite_same q joined other same (inr (kept, among, others, own)) =
    inr (kept, same.to kept among, (λ c has. others c (same.from c has)), own)

-- each colour that may become one with others is an actor's or the job's
pub may_unite_own : (q : Spot) (joined : List Colour) → MayUnite q joined → (c : Colour)
    → Contains joined c → IsOwn q c
may_unite_own q joined (inl none) c has =
    absurd (none_in c (subst (λ l. Contains l c) none has))
may_unite_own q joined (inr (kept, among, others, own)) c has = elim (others c has) [
  | inl is ↦ subst (IsOwn q) (sym is) own
  | inr job ↦ inr job
]
