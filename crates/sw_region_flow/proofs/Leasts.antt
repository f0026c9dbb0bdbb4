-- Each function has a least annotation of its points.
use Rattle.std.proofs.Common.{◌≡◌, ℕ, zero, suc, ◌+◌, ◌<◌, ◌≤◌, ◌⊎◌, inl, inr, ◌↔◌, Bool, true}
use Rattle.std.proofs.Common.{false, if◌then◌else◌, Option, Some, None, List, [], ◌∷◌, ◌++◌}
use Rattle.std.proofs.Common.{length, map, take, Contains, get_or, refl, sym, subst, ap, ◌∙◌, arith}
use Rattle.std.proofs.Common.{length-append}
use Rattle.std.proofs.lemmas.Bool.{cases_order}
use Rattle.std.proofs.lemmas.List.Concat.{flat_map-append}
use Rattle.std.proofs.lemmas.List.Elements.{All-nil, Contains-get_or, Contains-append_left}
use Rattle.std.proofs.lemmas.List.Elements.{Contains-append_right, Contains-append_cases}
use Rattle.std.proofs.lemmas.Option.{slice_get_within}
use Rattle.std.specs.List.{All, slice_get, flat_map}
use Rattle.std.specs.List.Sorted.{IsStrictlyIncreasing}
use Rattle.std.specs.Option.{option_map_or}
use Rattle.sw_graph.specs.Mentions.{blocks_of}
use Rattle.sw_graph.specs.Points.{Point, Middle, End, points_of, points_of_block}
use Rattle.sw_graph.specs.declared.instr.Block.{Block}
use Rattle.sw_partition.specs.Rank.{height_of}
use Rattle.sw_partition.specs.Rank.{rank_of}
use Rattle.sw_partition.specs.Laws.{rank_bound}
use Rattle.sw_partition.specs.Regions.{Regions, size_of, IsWithin}
use Rattle.sw_region_flow.proofs.Climbing.{IsHigher, CanClimb, some_top}
use Rattle.sw_region_flow.proofs.Doing.{some_run, some_met}
use Rattle.sw_region_flow.proofs.Exact.{point_flow, point_laws}
use Rattle.sw_region_flow.proofs.OneSites.{member_cases, member_first, member_later, no_member}
use Rattle.sw_region_flow.proofs.OneSites.{below_later, tail_rises}
use Rattle.sw_region_flow.proofs.Same.{copy_same}
use Rattle.sw_region_flow.proofs.United.{taken_in}
use Rattle.sw_region_flow.specs.Least.{first_point, following, followers, point_ops_at, IsLeast}
use Rattle.sw_region_flow.specs.Walks.{Walks}
use Rattle.sw_region_ops.proofs.RangeLemmas.{AreInside, all_fit, point_ops}
use Rattle.sw_region_ops.proofs.RunLemmas.{runs_size}
use Rattle.sw_region_ops.proofs.SiteLemmas.{sites_append}
use Rattle.sw_region_ops.specs.Elements.{element_at, element_count}
use Rattle.sw_region_ops.specs.Entry.{IsMet, here_at_entry, lent_from, listed}
use Rattle.sw_region_ops.specs.Runs.{Fits}
use Rattle.sw_region_ops.specs.Setting.{FunctionSetting}
use Rattle.sw_region_ops.specs.Sites.{AreSites, sites_of, body_ops}
use Rattle.sw_region_ops.specs.Table as table
use Rattle.sw_region_ops.specs.declared.op.Op.{Op}
use Rattle.sw_solve.proofs.Solving.{closed_bounds}

-- a rising list with a number before all others
put_first : (x : ℕ) (xs : List ℕ) → ((n : ℕ) → Contains xs n → x < n) → IsStrictlyIncreasing xs
    → IsStrictlyIncreasing (x ∷ xs)
put_first x xs before rising zero within =
    before (get_or xs 0 0) (Contains-get_or xs 0 0 (omega arith))
put_first x xs before rising (suc k) within =
    let next : suc (k + 1) ≡ suc k + 1 = omega arith in
    subst (λ n. get_or xs k 0 < get_or (x ∷ xs) n 0) next (rising k (omega arith))

-- the numbers of a list, each once, in rising order
record IsRisingOf (xs ys : List ℕ) : Type 0 where
  rising : IsStrictlyIncreasing ys
  same : (n : ℕ) → Contains ys n ↔ Contains xs n

put_in : (x : ℕ) (ys : List ℕ) → IsStrictlyIncreasing ys
    → (zs : List ℕ) × IsRisingOf (x ∷ ys) zs
put_in x [] rising = (
  x ∷ [],
  record {
    rising = put_first x [] (λ n none. absurd (no_member n none)) rising;
    same = λ n. (λ has. has, λ has. has);
  },
)
put_in x (y ∷ ys) rising = by (put_in x ys (tail_rises y ys rising)) (cases_order x y)
  where
    same_first : x ≡ y → (n : ℕ) → Contains (x ∷ y ∷ ys) n → Contains (y ∷ ys) n
    same_first e n has = elim (member_cases x (y ∷ ys) n has) [
      | inl is ↦ subst (λ m. Contains (y ∷ ys) m) (sym (is ∙ e)) (member_first y ys)
      | inr later ↦ later
    ]

    forth : (zs : List ℕ) → IsRisingOf (x ∷ ys) zs → (n : ℕ) → Contains (y ∷ zs) n
        → Contains (x ∷ y ∷ ys) n
    forth zs is n has = elim (member_cases y zs n has) [
      | inl e ↦ member_later x (y ∷ ys) n
          (subst (λ m. Contains (y ∷ ys) m) (sym e) (member_first y ys))
      | inr later ↦ elim (member_cases x ys n ((is.same n).0 later)) [
        | inl e ↦ subst (λ m. Contains (x ∷ y ∷ ys) m) (sym e) (member_first x (y ∷ ys))
        | inr rest ↦ member_later x (y ∷ ys) n (member_later y ys n rest)
      ]
    ]

    back : (zs : List ℕ) → IsRisingOf (x ∷ ys) zs → (n : ℕ) → Contains (x ∷ y ∷ ys) n
        → Contains (y ∷ zs) n
    back zs is n has = elim (member_cases x (y ∷ ys) n has) [
      | inl e ↦ member_later y zs n ((is.same n).1
          (subst (λ m. Contains (x ∷ ys) m) (sym e) (member_first x ys)))
      | inr later ↦ elim (member_cases y ys n later) [
        | inl e ↦ subst (λ m. Contains (y ∷ zs) m) (sym e) (member_first y zs)
        | inr rest ↦ member_later y zs n ((is.same n).1 (member_later x ys n rest))
      ]
    ]

    all_after : (zs : List ℕ) → IsRisingOf (x ∷ ys) zs → y < x → (n : ℕ) → Contains zs n → y < n
    all_after zs is lt n has = elim (member_cases x ys n ((is.same n).0 has)) [
      | inl e ↦ omega (arith, e, lt)
      | inr later ↦ below_later y ys rising n later
    ]

    before_all : x < y → (n : ℕ) → Contains (y ∷ ys) n → x < n
    before_all lt n has = elim (member_cases y ys n has) [
      | inl e ↦ omega (arith, e, lt)
      | inr later ↦ let h = below_later y ys rising n later in omega (arith, h, lt)
    ]

    by : (zs : List ℕ) × IsRisingOf (x ∷ ys) zs → (x ≡ y) ⊎ ((x < y) ⊎ (y < x))
        → (zs : List ℕ) × IsRisingOf (x ∷ y ∷ ys) zs
    by rest (inl e) = (
      y ∷ ys,
      record {
        rising = rising;
        same = λ n. (member_later x (y ∷ ys) n, same_first e n);
      },
    )
    by rest (inr (inl lt)) = (
      x ∷ y ∷ ys,
      record {
        rising = put_first x (y ∷ ys) (before_all lt) rising;
        same = λ n. (λ has. has, λ has. has);
      },
    )
    by (zs, is) (inr (inr lt)) = (
      y ∷ zs,
      record {
        rising = put_first y zs (all_after zs is lt) is.rising;
        same = λ n. (forth zs is n, back zs is n);
      },
    )

in_order : (xs : List ℕ) → (ys : List ℕ) × IsRisingOf xs ys
in_order [] = (
  [],
  record {
    rising = λ k within. absurd (omega arith);
    same = λ n. (λ has. has, λ has. has);
  },
)
in_order (x ∷ xs) = by (in_order xs)
  where
    in_rest : (ys : List ℕ) → IsRisingOf xs ys → (n : ℕ) → Contains (x ∷ ys) n ↔ Contains (x ∷ xs) n
    in_rest ys is n = (
      λ has. elim (member_cases x ys n has) [
        | inl e ↦ subst (λ m. Contains (x ∷ xs) m) (sym e) (member_first x xs)
        | inr later ↦ member_later x xs n ((is.same n).0 later)
      ],
      λ has. elim (member_cases x xs n has) [
        | inl e ↦ subst (λ m. Contains (x ∷ ys) m) (sym e) (member_first x ys)
        | inr later ↦ member_later x ys n ((is.same n).1 later)
      ],
    )

    by : (ys : List ℕ) × IsRisingOf xs ys → (zs : List ℕ) × IsRisingOf (x ∷ xs) zs
    by (ys, is) = let h = put_in x ys is.rising in (
      h.0,
      record {
        rising = h.1.rising;
        same = λ n. (
          λ has. (in_rest ys is n).0 ((h.1.same n).0 has),
          λ has. (h.1.same n).1 ((in_rest ys is n).1 has),
        );
      },
    )

pub some_sites : (setting : FunctionSetting) → (sites : List ℕ) × AreSites setting sites
some_sites setting = let h = in_order (sites_of (body_ops setting)) in
    (h.0, record { rising = h.1.rising; same = h.1.same })

-- the operations at a point are among those of the function
flat_twice : (f : Point → List Op) (blocks : List Block)
    → flat_map f (flat_map points_of_block blocks)
    ≡ flat_map (λ block. flat_map f (points_of_block block)) blocks
flat_twice f [] = refl
flat_twice f (block ∷ blocks) =
    flat_map-append f (points_of_block block) (flat_map points_of_block blocks)
    ∙ ap (λ ops. flat_map f (points_of_block block) ++ ops) (flat_twice f blocks)

among_points : (f : Point → List Op) (points : List Point) (p : ℕ) (point : Point)
    → slice_get points p ≡ Some point → (site : ℕ) → Contains (sites_of (f point)) site
    → Contains (sites_of (flat_map f points)) site
among_points f [] p point e site has = cc
among_points f (first ∷ points) zero point e site has =
    let is : first ≡ point = cc in
    rw (sites_append (f first) (flat_map f points))
    (Contains-append_left (sites_of (f first)) (sites_of (flat_map f points)) site
    (subst (λ q. Contains (sites_of (f q)) site) (sym is) has))
among_points f (first ∷ points) (suc p) point e site has =
    rw (sites_append (f first) (flat_map f points))
    (Contains-append_right (sites_of (f first)) (sites_of (flat_map f points)) site
    (among_points f points p point e site has))

pub point_fits : (setting : FunctionSetting) (sites : List ℕ) → AreInside setting.elements
    → AreSites setting sites → (p : ℕ)
    → All (Fits (element_count setting.elements ∷ sites)) (point_ops_at setting p)
unfolding point_ops_at points_of
point_fits setting sites inside are p = by (slice_get (points_of setting.body.blocks) p) refl
  where
    in_body : (point : Point) → slice_get (points_of setting.body.blocks) p ≡ Some point
        → (site : ℕ) → Contains (sites_of (table.point_ops setting point)) site
        → Contains (sites_of (body_ops setting)) site
    in_body point e site has =
        subst (λ ops. Contains (sites_of ops) site)
        (flat_twice (table.point_ops setting) setting.body.blocks)
        (among_points (table.point_ops setting) (points_of setting.body.blocks) p point e site has)

    by : (o : Option Point) → slice_get (points_of setting.body.blocks) p ≡ o
        → All (Fits (element_count setting.elements ∷ sites))
        (option_map_or (table.point_ops setting) o [])
    by None e = All-nil (Fits (element_count setting.elements ∷ sites))
    by (Some point) e =
        all_fit (element_count setting.elements) sites (table.point_ops setting point)
        (point_ops setting inside point)
        (λ site has. (are.same site).1 (in_body point e site has))

-- the points that follow a point are those of the function, or the one after them
first_within : (blocks : List Block) (b : ℕ) → first_point blocks b ≤ length (points_of blocks)
unfolding first_point points_of
first_within blocks zero = omega arith
first_within [] (suc b) = omega arith
first_within (block ∷ blocks) (suc b) =
    let h = first_within blocks b in
    omega (
      arith,
      h,
      length-append (points_of_block block) (points_of (take b blocks)),
      length-append (points_of_block block) (points_of blocks),
    )

mapped_within : (f : ℕ → ℕ) (n : ℕ) → ((b : ℕ) → f b ≤ n) → (bs : List ℕ) (q : ℕ)
    → Contains (map f bs) q → q ≤ n
mapped_within f n within [] q has = absurd (no_member q has)
mapped_within f n within (b ∷ bs) q has = elim (member_cases (f b) (map f bs) q has) [
  | inl e ↦ let h = within b in omega (arith, e, h)
  | inr later ↦ mapped_within f n within bs q later
]

followers_within : (blocks : List Block) (p q : ℕ) → Contains (followers blocks p) q
    → q < suc (length (points_of blocks))
unfolding followers
followers_within blocks p q has = by (slice_get (points_of blocks) p) refl has
  where
    at : (point : Point) → slice_get (points_of blocks) p ≡ Some point
        → Contains (following blocks p point) q → q < suc (length (points_of blocks))
    at (Middle instr) e has = elim (member_cases (p + 1) [] q has) [
      | inl is ↦ let h = slice_get_within (points_of blocks) p (Middle instr) e in
          omega (arith, is, h)
      | inr none ↦ absurd (no_member q none)
    ]
    at (End last) e has =
        let h = mapped_within (first_point blocks) (length (points_of blocks))
        (first_within blocks) (blocks_of last) q has in omega (arith, h)

    by : (o : Option Point) → slice_get (points_of blocks) p ≡ o
        → Contains (option_map_or (following blocks p) o []) q
        → q < suc (length (points_of blocks))
    by None e has = absurd (no_member q has)
    by (Some point) e has = at point e has

-- what is lent at an entry is there
lent_inside : (elements : List (Option ℕ)) → AreInside elements → (k : ℕ) (sending : List Bool)
    (x : ℕ) → Contains (lent_from elements k sending) x → x < element_count elements
lent_inside elements inside k [] x has = absurd (no_member x has)
lent_inside elements inside k (sends ∷ sending) x has =
    elim (Contains-append_cases (if sends then [] else listed (element_at elements k))
    (lent_from elements (k + 1) sending) x has) [
      | inl here ↦ by sends here
      | inr later ↦ lent_inside elements inside (k + 1) sending x later
    ]
  where
    one : (o : Option ℕ) → element_at elements k ≡ o → Contains (listed o) x
        → x < element_count elements
    one None e has = absurd (no_member x has)
    one (Some y) e has = elim (member_cases y [] x has) [
      | inl is ↦ let h = (inside k y e).1 in omega (arith, is, h)
      | inr none ↦ absurd (no_member x none)
    ]

    by : (b : Bool) → Contains (if b then [] else listed (element_at elements k)) x
        → x < element_count elements
    by true here = absurd (no_member x here)
    by false here = one (element_at elements k) refl here

here_inside : (setting : FunctionSetting) → AreInside setting.elements → (x : ℕ)
    → Contains (here_at_entry setting) x → x < element_count setting.elements
here_inside setting inside x has =
    elim (member_cases 0 (lent_from setting.elements 0 setting.body.sending) x has) [
      | inl e ↦ omega (arith, e)
      | inr later ↦ lent_inside setting.elements inside 0 setting.body.sending x later
    ]

met_size : (count : ℕ) (sites met : List ℕ) (r : Regions) → IsMet count sites met r
    → size_of r ≡ count ∷ sites
met_size count sites met r is =
    ap (λ n. n ∷ r.sites) is.elements_are ∙ ap (λ s. count ∷ s) is.sites_are

-- the flow of a function's points can be climbed
abbrev points_count : FunctionSetting → ℕ
points_count setting = suc (length (points_of setting.body.blocks))

climbs : (setting : FunctionSetting) (sites : List ℕ) → AreInside setting.elements
    → AreSites setting sites → CanClimb (point_flow setting sites) (points_count setting)
    (height_of (element_count setting.elements ∷ sites))
climbs setting sites inside are =
    let entry = some_met (element_count setting.elements) sites (here_at_entry setting)
    (here_inside setting inside) in
    record {
      some = omega arith;
      inside = followers_within setting.body.blocks;
      steps = λ p x sized. step p x sized;
      takes = λ x y x_sized y_sized. take_in x y x_sized y_sized;
      bounded = λ x sized. subst (λ s. rank_of x ≤ height_of s) sized (rank_bound x);
      entry = entry.0;
      enters_by = entry.1;
      entry_sized = met_size (element_count setting.elements) sites (here_at_entry setting) entry.0
          entry.1;
    }
  where
    step : (p : ℕ) (x : Regions) → size_of x ≡ element_count setting.elements ∷ sites
        → (made : Regions) × Walks (point_ops_at setting p) x made
        × (size_of made ≡ element_count setting.elements ∷ sites)
    step p x sized =
        let h = some_run (point_ops_at setting p) x
        (subst (λ s. All (Fits s) (point_ops_at setting p)) (sym sized)
        (point_fits setting sites inside are p)) in (
          h.0,
          record { copied = x; is_copy = copy_same x; runs = h.1 },
          runs_size (point_ops_at setting p) x h.0 h.1 ∙ sized,
        )

    take_in : (x y : Regions) → size_of x ≡ element_count setting.elements ∷ sites
        → size_of y ≡ element_count setting.elements ∷ sites
        → IsWithin y x ⊎ ((z : Regions) × IsHigher (point_flow setting sites) x y z)
    take_in x y x_sized y_sized = elim (taken_in x y (y_sized ∙ sym x_sized)) [
      | inl le ↦ inl le
      | inr h ↦ inr (
        h.0,
        record {
          sized = h.1.union.sized ∙ x_sized;
          left = h.1.union.left;
          right = h.1.union.right;
          least = λ w sized. h.1.union.least w;
          higher = h.1.higher;
        },
      )
    ]

-- a function has a least annotation of its points
pub some_least : (setting : FunctionSetting) → AreInside setting.elements
    → (states : List (Option Regions)) × IsLeast setting states
some_least setting inside = by (some_sites setting)
  where
    by : (sites : List ℕ) × AreSites setting sites
        → (states : List (Option Regions)) × IsLeast setting states
    by (sites, are) =
        let top = some_top (point_flow setting sites) (point_laws setting sites)
        (points_count setting) (height_of (element_count setting.elements ∷ sites))
        (climbs setting sites inside are) in (
          top.0,
          record {
            sites = sites;
            are_sites = are;
            closed = top.1.closed;
            least = λ other closed. top.1.lowest other
                (closed_bounds (point_flow setting sites) (point_laws setting sites) other closed);
          },
        )
