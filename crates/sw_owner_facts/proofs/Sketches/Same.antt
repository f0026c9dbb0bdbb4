-- Tests of equality, and that they tell.
use Rattle.std.proofs.Common.{sym, ap, ◌∙◌}
use Rattle.std.proofs.lemmas.Bool.{and_parts, not-true, eqb-true, eq-eqb}
use Rattle.std.specs.Prelude.{◌≡◌, ℕ, Bool, true, false, not, ◌&&◌, ◌==◌, Option, Some, None, List}
use Rattle.std.specs.Prelude.{[], ◌∷◌, refl}
use Rattle.sw_owner_facts.specs.Colours.{Actor, Instance, GlobalActor, Colour, OfJob, OfActor, Executor}
use Rattle.sw_owner_facts.specs.Colours.{Generic, On}
use Rattle.sw_owner_facts.specs.Sketch.{RegisterSketch, Row}
use Rattle.sw_owner_facts.specs.View.{FunctionIsolation, Nonisolated, IsolatedTo, MakesActor, FrameShape}

-- ---- tests of equality
abbrev pub same_actor : Actor → Actor → Bool
same_actor (Instance a) (Instance b) = a == b
same_actor (GlobalActor a) (GlobalActor b) = a == b
same_actor _ _ = false

pub same_actor_true : (a b : Actor) → same_actor a b ≡ true → a ≡ b
same_actor_true (Instance a) (Instance b) e = ap Instance (eqb-true a b e)
same_actor_true (GlobalActor a) (GlobalActor b) e = ap GlobalActor (eqb-true a b e)
same_actor_true (Instance a) (GlobalActor b) e = absurd (cc (e))
same_actor_true (GlobalActor a) (Instance b) e = absurd (cc (e))

pub same_actor_refl : (a : Actor) → same_actor a a ≡ true
same_actor_refl (Instance a) = eq-eqb a a refl
same_actor_refl (GlobalActor a) = eq-eqb a a refl

abbrev pub same_colour : Colour → Colour → Bool
same_colour (OfJob i n) (OfJob j m) = (i == j) && (n == m)
same_colour (OfActor a) (OfActor b) = same_actor a b
same_colour _ _ = false

pub same_colour_true : (c d : Colour) → same_colour c d ≡ true → c ≡ d
same_colour_true (OfJob i n) (OfJob j m) e = let both = and_parts (i == j) (n == m) e in
    ap (λ i. OfJob i n) (eqb-true i j both.0) ∙ ap (OfJob j) (eqb-true n m both.1)
same_colour_true (OfActor a) (OfActor b) e = ap OfActor (same_actor_true a b e)
same_colour_true (OfJob i n) (OfActor b) e = absurd (cc (e))
same_colour_true (OfActor a) (OfJob j m) e = absurd (cc (e))

pub same_colour_refl : (c : Colour) → same_colour c c ≡ true
same_colour_refl (OfJob i n) = ap (λ b. b && (n == n)) (eq-eqb i i refl) ∙ eq-eqb n n refl
same_colour_refl (OfActor a) = same_actor_refl a

abbrev pub stands_on : Executor → Actor → Bool
stands_on Generic a = false
stands_on (On b) a = same_actor b a

pub stands_on_true : (e : Executor) (a : Actor) → stands_on e a ≡ true → e ≡ On a
stands_on_true Generic a t = absurd (cc (t))
stands_on_true (On b) a t = ap On (same_actor_true b a t)

abbrev pub same_executor : Executor → Executor → Bool
same_executor Generic Generic = true
same_executor (On a) (On b) = same_actor a b
same_executor _ _ = false

pub same_executor_true : (d e : Executor) → same_executor d e ≡ true → d ≡ e
same_executor_true Generic Generic t = refl
same_executor_true (On a) (On b) t = ap On (same_actor_true a b t)
same_executor_true Generic (On b) t = absurd (cc (t))
same_executor_true (On a) Generic t = absurd (cc (t))

abbrev pub same_bool : Bool → Bool → Bool
same_bool true b = b
same_bool false b = not b

pub same_bool_true : (a b : Bool) → same_bool a b ≡ true → a ≡ b
same_bool_true true b e = sym e
same_bool_true false b e = sym (not-true b e)

abbrev pub same_isolation : FunctionIsolation → FunctionIsolation → Bool
same_isolation Nonisolated Nonisolated = true
same_isolation (IsolatedTo a) (IsolatedTo b) = same_actor a b
same_isolation MakesActor MakesActor = true
same_isolation _ _ = false

pub same_isolation_true : (a b : FunctionIsolation) → same_isolation a b ≡ true → a ≡ b
same_isolation_true Nonisolated Nonisolated e = refl
same_isolation_true (IsolatedTo a) (IsolatedTo b) e = ap IsolatedTo (same_actor_true a b e)
same_isolation_true MakesActor MakesActor e = refl
same_isolation_true Nonisolated (IsolatedTo b) e = absurd (cc (e))
same_isolation_true Nonisolated MakesActor e = absurd (cc (e))
same_isolation_true (IsolatedTo a) Nonisolated e = absurd (cc (e))
same_isolation_true (IsolatedTo a) MakesActor e = absurd (cc (e))
same_isolation_true MakesActor Nonisolated e = absurd (cc (e))
same_isolation_true MakesActor (IsolatedTo b) e = absurd (cc (e))

abbrev pub same_result : Option ℕ → Option ℕ → Bool
same_result None None = true
same_result (Some r) (Some s) = r == s
same_result _ _ = false

pub same_result_true : (a b : Option ℕ) → same_result a b ≡ true → a ≡ b
same_result_true None None e = refl
same_result_true (Some r) (Some s) e = ap Some (eqb-true r s e)
same_result_true None (Some s) e = absurd (cc (e))
same_result_true (Some r) None e = absurd (cc (e))

abbrev pub same_list : {A : Type 0} → (A → A → Bool) → List A → List A → Bool
same_list same [] [] = true
same_list same (x ∷ xs) (y ∷ ys) = same x y && same_list same xs ys
same_list same _ _ = false

pub same_list_true : {A : Type 0} (same : A → A → Bool) → ((x y : A) → same x y ≡ true → x ≡ y)
    → (xs ys : List A) → same_list same xs ys ≡ true → xs ≡ ys
same_list_true same says [] [] e = refl
same_list_true same says (x ∷ xs) (y ∷ ys) e = let both = and_parts (same x y)
    (same_list same xs ys) e in
    ap (λ z. z ∷ xs) (says x y both.0) ∙ ap (λ zs. y ∷ zs) (same_list_true same says xs ys both.1)
same_list_true same says [] (y ∷ ys) e = absurd (cc (e))
same_list_true same says (x ∷ xs) [] e = absurd (cc (e))

abbrev pub same_slot : RegisterSketch → RegisterSketch → Bool
same_slot s t = same_bool s.live t.live &&
    ((s.region == t.region) && same_list same_colour s.colours t.colours)

pub same_slot_true : (s t : RegisterSketch) → same_slot s t ≡ true → s ≡ t
same_slot_true s t e =
    let a = and_parts (same_bool s.live t.live)
    ((s.region == t.region) && same_list same_colour s.colours t.colours) e in
    let b = and_parts (s.region == t.region) (same_list same_colour s.colours t.colours) a.1 in
    let live = same_bool_true s.live t.live a.0 in
    let region = eqb-true s.region t.region b.0 in
    let colours = same_list_true same_colour same_colour_true s.colours t.colours b.1 in
    λ i. record { live = live i; region = region i; colours = colours i }

abbrev pub same_shapes : FrameShape → FrameShape → Bool
same_shapes s t = same_isolation s.isolation t.isolation &&
    (same_executor s.executor t.executor && (same_bool s.crossing t.crossing
    && (same_bool s.closing t.closing && same_result s.result t.result)))

pub same_shapes_true : (s t : FrameShape) → same_shapes s t ≡ true → s ≡ t
same_shapes_true s t e =
    let a = and_parts (same_isolation s.isolation t.isolation)
    (same_executor s.executor t.executor &&
    (same_bool s.crossing t.crossing && (same_bool s.closing t.closing && same_result s.result
    t.result))) e in
    let b = and_parts (same_executor s.executor t.executor)
    (same_bool s.crossing t.crossing && (same_bool s.closing t.closing && same_result s.result
    t.result)) a.1 in
    let c = and_parts (same_bool s.crossing t.crossing)
    (same_bool s.closing t.closing && same_result s.result t.result) b.1 in
    let d = and_parts (same_bool s.closing t.closing) (same_result s.result t.result) c.1 in
    let isolation = same_isolation_true s.isolation t.isolation a.0 in
    let executor = same_executor_true s.executor t.executor b.0 in
    let crossing = same_bool_true s.crossing t.crossing c.0 in
    let closing = same_bool_true s.closing t.closing d.0 in
    let result = same_result_true s.result t.result d.1 in
    λ i. record {
      isolation = isolation i;
      executor = executor i;
      crossing = crossing i;
      closing = closing i;
      result = result i;
    }

abbrev pub same_rows : Row → Row → Bool
same_rows s t = same_shapes s.shape t.shape &&
    (same_colour s.here t.here && ((s.region == t.region) && same_list same_slot s.slots t.slots))

pub same_rows_true : (s t : Row) → same_rows s t ≡ true → s ≡ t
same_rows_true s t e =
    let a = and_parts (same_shapes s.shape t.shape)
    (same_colour s.here t.here && ((s.region == t.region) && same_list same_slot s.slots
    t.slots)) e in
    let b = and_parts (same_colour s.here t.here)
    ((s.region == t.region) && same_list same_slot s.slots t.slots) a.1 in
    let c = and_parts (s.region == t.region) (same_list same_slot s.slots t.slots) b.1 in
    let shape = same_shapes_true s.shape t.shape a.0 in
    let here = same_colour_true s.here t.here b.0 in
    let region = eqb-true s.region t.region c.0 in
    let slots = same_list_true same_slot same_slot_true s.slots t.slots c.1 in
    λ i. record { shape = shape i; here = here i; region = region i; slots = slots i }
