-- Colours that become one: as a renaming, and when there is one that can be kept.
use Rattle.std.proofs.Common.{◌≡◌, ℕ, zero, suc, ◌==◌, Bool, true, false, cond}
use Rattle.std.proofs.Common.{Option, Some, None, List, [], ◌∷◌, map, Contains, refl}
use Rattle.std.proofs.Common.{sym, subst, ap, ◌∙◌, arith, inl, inr, if◌then◌else◌}
use Rattle.std.specs.Option.{option_map}
use Rattle.std.proofs.lemmas.Bool.{cases_eq, eq-eqb, ne_eqb}
use Rattle.sw_list.proofs.Members.{first_or_later, none_in}
use Rattle.sw_owner_facts.specs.Colours.{Actor, Colour, OfJob, OfActor}
use Rattle.sw_owner_facts.specs.View.{Frame as Spot}
use Rattle.sw_view_facts.specs.Renaming.{recoloured_by, renames, united}
use Rattle.sw_view_facts.specs.Views.{Colours}
use Rattle.sw_view_facts.proofs.RenameLemmas.{becomes}
use Rattle.sw_secure_facts.specs.Painting.{MayUnite, Unites}

-- ---- what becomes of a colour
-- one renaming after the other
abbrev pub united_colour : ℕ → List ℕ → Colour → Colour → Colour
united_colour job [] kept c = c
united_colour job (n ∷ ns) kept c = united_colour job ns kept (renames job n kept c)

-- an actor's colour stays
pub actors_stay : (job : ℕ) (ns : List ℕ) (kept : Colour) (a : Actor)
    → united_colour job ns kept (OfActor a) ≡ OfActor a
actors_stay job [] kept a = refl
actors_stay job (n ∷ ns) kept a = actors_stay job ns kept a

renames_kept : (job n : ℕ) (kept : Colour) → renames job n kept kept ≡ kept
renames_kept job n kept = elim (becomes job n kept kept) [
  | inl both ↦ both.1
  | inr other ↦ other.1
]

-- and so does the one that is kept
pub kept_stays : (job : ℕ) (ns : List ℕ) (kept : Colour)
    → united_colour job ns kept kept ≡ kept
kept_stays job [] kept = refl
kept_stays job (n ∷ ns) kept =
    ap (united_colour job ns kept) (renames_kept job n kept) ∙ kept_stays job ns kept

-- each of the numbered ones becomes the one that is kept
pub joins_kept : (job : ℕ) (ns : List ℕ) (kept : Colour) (n : ℕ) → Contains ns n
    → united_colour job ns kept (OfJob job n) ≡ kept
joins_kept job [] kept n has = absurd (let inside = has.1 in omega (arith, inside))
joins_kept job (m ∷ ns) kept n has = elim (becomes job m kept (OfJob job n)) [
  | inl both ↦ ap (united_colour job ns kept) both.1 ∙ kept_stays job ns kept
  | inr other ↦ elim (first_or_later m ns n has) [
    | inl same ↦ absurd (other.0 (sym (ap (OfJob job) same)))
    | inr later ↦ ap (united_colour job ns kept) other.1 ∙ joins_kept job ns kept n later
  ]
]

-- any other colour stays
pub others_stay : (job : ℕ) (ns : List ℕ) (kept c : Colour)
    → ((n : ℕ) → Contains ns n → c ≡ OfJob job n → ⊥) → united_colour job ns kept c ≡ c
others_stay job [] kept c differs = refl
others_stay job (m ∷ ns) kept c differs = elim (becomes job m kept c) [
  | inl both ↦ absurd (differs m (zero, omega arith, refl) both.0)
  | inr other ↦ ap (united_colour job ns kept) other.1
      ∙ others_stay job ns kept c
      (λ n has. differs n (suc has.0, (let inside = has.1 in omega (arith, inside)), has.2))
]

-- ---- of the colours of a state
module _ {A B C : Type 0} (f : B → C) (g : A → B) where
  map_map : (xs : List A) → map f (map g xs) ≡ map (λ x. f (g x)) xs
  map_map [] = refl
  map_map (x ∷ xs) = ap (λ l. f (g x) ∷ l) (map_map xs)

  pub map_options : (xs : List (Option A))
      → map (option_map f) (map (option_map g) xs) ≡ map (option_map (λ x. f (g x))) xs
  map_options [] = refl
  map_options (None ∷ xs) = ap (λ l. None ∷ l) (map_options xs)
  map_options (Some x ∷ xs) = ap (λ l. Some (f (g x)) ∷ l) (map_options xs)

  pub map_rows : (xs : List (List A))
      → map (map f) (map (map g) xs) ≡ map (map (λ x. f (g x))) xs
  map_rows [] = refl
  map_rows (x ∷ xs) = ap (λ l. l ∷ map (map f) (map (map g) xs)) (map_map x)
      ∙ ap (λ l. map (λ y. f (g y)) x ∷ l) (map_rows xs)

twice : (f g : Colour → Colour) (colours : Colours)
    → recoloured_by f (recoloured_by g colours) ≡ recoloured_by (λ c. f (g c)) colours
twice f g colours =
    ap (λ (cs : List (Option Colour)). record {
      cells = cs;
      heres = map (map f) (map (map g) colours.heres);
    }) (map_options f g colours.cells)
    ∙ ap (λ (hs : List (List Colour)). record {
      cells = map (option_map (λ c. f (g c))) colours.cells;
      heres = hs;
    }) (map_rows f g colours.heres)

identity : (colours : Colours) → recoloured_by (λ c. c) colours ≡ colours
identity colours =
    ap (λ (cs : List (Option Colour)). record {
      cells = cs;
      heres = map (map (λ c. c)) colours.heres;
    }) (options colours.cells)
    ∙ ap (λ (hs : List (List Colour)). record { cells = colours.cells; heres = hs })
    (rows colours.heres)
  where
    options : (os : List (Option Colour)) → map (option_map (λ c. c)) os ≡ os
    options [] = refl
    options (None ∷ os) = ap (λ l. None ∷ l) (options os)
    options (Some c ∷ os) = ap (λ l. Some c ∷ l) (options os)

    row : (cs : List Colour) → map (λ c. c) cs ≡ cs
    row [] = refl
    row (c ∷ cs) = ap (λ l. c ∷ l) (row cs)

    rows : (hs : List (List Colour)) → map (map (λ c. c)) hs ≡ hs
    rows [] = refl
    rows (h ∷ hs) = ap (λ l. l ∷ map (map (λ c. c)) hs) (row h) ∙ ap (λ l. h ∷ l) (rows hs)

pub united_is : (job : ℕ) (ns : List ℕ) (kept : Colour) (colours : Colours)
    → united job ns kept colours ≡ recoloured_by (united_colour job ns kept) colours
united_is job [] kept colours = sym (identity colours)
united_is job (n ∷ ns) kept colours =
    united_is job ns kept (recoloured_by (renames job n kept) colours)
    ∙ twice (united_colour job ns kept) (renames job n kept) colours

-- What renamings keep that leave actors' colours as they are, is kept where colours become one.
pub united_keeps : (P : Colours → Type 0)
    → ((f : Colour → Colour) (c : Colours) → ((a : Actor) → f (OfActor a) ≡ OfActor a) → P c
    → P (recoloured_by f c)) → (job : ℕ) (ns : List ℕ) (kept : Colour) (colours : Colours)
    → P colours → P (united job ns kept colours)
united_keeps P keeps job [] kept colours holds = holds
united_keeps P keeps job (n ∷ ns) kept colours holds =
    united_keeps P keeps job ns kept (recoloured_by (renames job n kept) colours)
    (keeps (renames job n kept) colours (λ a. refl) holds)

-- ---- joined colours
-- what was joined is the colour that is kept
pub joined_become : (job : ℕ) (joined : List Colour) (colours after : Colours)
    (unites : Unites job joined colours after) (c : Colour) → Contains joined c
    → united_colour job unites.numbers unites.kept c ≡ unites.kept
joined_become job joined colours after unites c has = elim (unites.others c has) [
  | inl same ↦ ap (united_colour job unites.numbers unites.kept) same
      ∙ kept_stays job unites.numbers unites.kept
  | inr (n, numbered, is) ↦ ap (united_colour job unites.numbers unites.kept) is
      ∙ joins_kept job unites.numbers unites.kept n numbered
]

-- a colour that becomes itself is no other one
stays_itself : (job : ℕ) (numbers : List ℕ) (kept c : Colour)
    → ((n : ℕ) → Contains numbers n → kept ≡ OfJob job n)
    → united_colour job numbers kept c ≡ c
stays_itself job [] kept c same = refl
stays_itself job (n ∷ numbers) kept c same =
    ap (united_colour job numbers kept) first
    ∙ stays_itself job numbers kept c
    (λ m has. same m (suc has.0, (let inside = has.1 in omega (arith, inside)), has.2))
  where
    first : renames job n kept c ≡ c
    first = elim (becomes job n kept c) [
      | inl both ↦ both.1 ∙ same n (0, omega arith, refl) ∙ sym both.0
      | inr other ↦ other.1
    ]

-- where the colours that become one are one already, nothing changes
pub same_unites : (job : ℕ) (numbers : List ℕ) (kept : Colour) (colours : Colours)
    → ((n : ℕ) → Contains numbers n → kept ≡ OfJob job n)
    → united job numbers kept colours ≡ colours
same_unites job numbers kept colours same =
    united_is job numbers kept colours
    ∙ ap (λ h. recoloured_by h colours) (λ i c. stays_itself job numbers kept c same i)
    ∙ sym (united_is job [] kept colours)

-- nor where none become one
pub nothing_unites : (job : ℕ) (colours after : Colours) → Unites job [] colours after
    → after ≡ colours
nothing_unites job colours after u =
    u.is ∙ same_unites job u.numbers u.kept colours
    (λ n has. absurd (none_in (OfJob job n) (u.only n has)))

-- the numbers of a job's colours
abbrev pub numbers_of : ℕ → List Colour → List ℕ
numbers_of job [] = []
numbers_of job (OfJob j n ∷ cs) =
    if j == job then n ∷ numbers_of job cs else numbers_of job cs
numbers_of job (OfActor a ∷ cs) = numbers_of job cs

later : {X : Type 0} (x : X) (xs : List X) (y : X) → Contains xs y → Contains (x ∷ xs) y
later x xs y has = (suc has.0, (let inside = has.1 in omega (arith, inside)), has.2)

first : {X : Type 0} (x : X) (xs : List X) → Contains (x ∷ xs) x
first x xs = (zero, omega arith, refl)

pub numbered : (job : ℕ) (cs : List Colour) (n : ℕ) → Contains cs (OfJob job n)
    → Contains (numbers_of job cs) n
numbered job [] n has = absurd (let inside = has.1 in omega (arith, inside))
numbered job (OfActor a ∷ cs) n has = elim (first_or_later (OfActor a) cs (OfJob job n) has) [
  | inl same ↦ absurd (let clash : ⊥ = cc in clash)
  | inr rest ↦ numbered job cs n rest
]
numbered job (OfJob j m ∷ cs) n has = elim (first_or_later (OfJob j m) cs (OfJob job n) has) [
  | inl same ↦
      let is_job : j ≡ job = cc in
      let is_number : m ≡ n = cc in
      subst (λ (l : List ℕ). Contains l n)
      (sym (ap (λ b. cond b (m ∷ numbers_of job cs) (numbers_of job cs)) (eq-eqb j job is_job)))
      (subst (λ k. Contains (k ∷ numbers_of job cs) n) (sym is_number) (first n (numbers_of job cs)))
  | inr rest ↦ by (j == job) (numbered job cs n rest)
]
  where
    by : (b : Bool) → Contains (numbers_of job cs) n
        → Contains (cond b (m ∷ numbers_of job cs) (numbers_of job cs)) n
    by true there = later m (numbers_of job cs) n there
    by false there = there

pub numbers_are : (job : ℕ) (cs : List Colour) (n : ℕ) → Contains (numbers_of job cs) n
    → Contains cs (OfJob job n)
numbers_are job [] n has = absurd (let inside = has.1 in omega (arith, inside))
numbers_are job (OfActor a ∷ cs) n has =
    later (OfActor a) cs (OfJob job n) (numbers_are job cs n has)
numbers_are job (OfJob j m ∷ cs) n has = elim (cases_eq j job) [
  | inl same ↦ elim (first_or_later m (numbers_of job cs) n
      (subst (λ (l : List ℕ). Contains l n)
      (ap (λ b. cond b (m ∷ numbers_of job cs) (numbers_of job cs)) (eq-eqb j job same)) has)) [
        | inl is ↦ subst (λ (c : Colour). Contains (OfJob j m ∷ cs) c)
            (ap (λ k. OfJob k m) same ∙ ap (OfJob job) is) (first (OfJob j m) cs)
        | inr rest ↦ later (OfJob j m) cs (OfJob job n) (numbers_are job cs n rest)
      ]
  | inr differ ↦ later (OfJob j m) cs (OfJob job n) (numbers_are job cs n
      (subst (λ (l : List ℕ). Contains l n)
      (ap (λ b. cond b (m ∷ numbers_of job cs) (numbers_of job cs)) (ne_eqb j job differ)) has))
]

-- colours of which one can be kept can become one
pub may_unite_some : (q : Spot) (joined : List Colour) → MayUnite q joined → (colours : Colours)
    → (after : Colours) × Unites q.job joined colours after
may_unite_some q joined (inl none) colours = (
  colours,
  record {
    kept = OfJob q.job 0;
    numbers = [];
    is = refl;
    among = λ c has. absurd (nothing c has);
    others = λ c has. absurd (nothing c has);
    only = λ n has. absurd (let inside = has.1 in omega (arith, inside));
  },
)
  where
    nothing : (c : Colour) → Contains joined c → ⊥
    nothing c has =
        let inside = (subst (λ (l : List Colour). Contains l c) none has).1 in
        omega (arith, inside)
may_unite_some q joined (inr (kept, among, others, own)) colours = (
  united q.job (numbers_of q.job joined) kept colours,
  record {
    kept = kept;
    numbers = numbers_of q.job joined;
    is = refl;
    among = λ c has. among;
    others = λ c has. elim (others c has) [
      | inl same ↦ inl same
      | inr (n, is) ↦ inr (
        n,
        numbered q.job joined n
            (subst (λ (d : Colour). Contains joined d) is has),
        is,
      )
    ];
    only = λ n has. numbers_are q.job joined n has;
  },
)
