-- A graph has a list of breaches in order: each is put in at its place.
use Rattle.std.proofs.Common.{ℕ, ◌⊎◌, inl, inr, Option, Some, None, List, [], ◌∷◌}
use Rattle.std.proofs.Common.{◌++◌, Contains, get_or, refl, sym, subst, ◌∙◌, arith}
use Rattle.std.proofs.lemmas.Bool.{cases_lt, cases_order}
use Rattle.std.proofs.lemmas.List.Elements.{Contains-append_cases, Contains-append_left}
use Rattle.std.proofs.lemmas.List.Elements.{Contains-append_right, Contains-get_or}
use Rattle.std.proofs.lemmas.List.Kept.{AllPairs-cons}
use Rattle.std.specs.List.{AllPairs}
use Rattle.sw_breach.specs.declared.Breach.{Breach}
use Rattle.sw_graph.specs.declared.graph.Graph.{Graph}
use Rattle.sw_region_flow.proofs.Gathering.{graph_list}
use Rattle.sw_region_flow.proofs.Listed.{Stood, stands_itself, stands_trans, before_later}
use Rattle.sw_region_flow.proofs.Listed.{are_breaches}
use Rattle.sw_region_flow.proofs.OneList.{first_before, rest_rises}
use Rattle.sw_region_flow.proofs.OneSites.{member_cases, member_first, member_later, no_member}
use Rattle.sw_region_flow.specs.Breaches.{AreAll, AreBreaches, IsBefore, IsNoteAtMost}
use Rattle.sw_region_flow.specs.Breaches.{StandsFor}

-- a rising list with a breach before all others
put_before : (b : Breach) (bs : List Breach)
    → ((other : Breach) → Contains bs other → IsBefore b other) → AllPairs IsBefore bs
    → AllPairs IsBefore (b ∷ bs)
put_before b bs before rising = AllPairs-cons IsBefore b bs
    (λ k d within. before (get_or bs k d) (Contains-get_or bs k d within)) rising

-- of two breaches one is before the other, or one stands for the other
data Placed (one other : Breach) : Type 0 where
  first : IsBefore one other → Placed one other
  kept : StandsFor one other → Placed one other
  dropped : StandsFor other one → Placed one other
  later : IsBefore other one → Placed one other

note_order : (a b : Option ℕ) → IsNoteAtMost a b ⊎ IsNoteAtMost b a
note_order None b = inl tt
note_order (Some x) None = inr tt
note_order (Some x) (Some y) = elim (cases_lt x y) [
  | inl lt ↦ inl (omega arith)
  | inr ge ↦ inr ge
]

placed : (one other : Breach) → Placed one other
placed one other = elim (cases_order one.at other.at) [
  | inr (inl lt) ↦ first (inl lt)
  | inr (inr gt) ↦ later (inl gt)
  | inl at ↦ elim (cases_order one.code other.code) [
    | inr (inl lt) ↦ first (inr (at, lt))
    | inr (inr gt) ↦ later (inr (sym at, gt))
    | inl code ↦ elim (note_order one.note other.note) [
      | inl note ↦ kept (record { at = at; code = code; note = note })
      | inr note ↦ dropped (record { at = sym at; code = sym code; note = note })
    ]
  ]
]

-- a list that rises is kept whole
kept_whole : (list : List Breach) → AllPairs IsBefore list → AreAll (Contains list) list
kept_whole list rising = record {
  sound = λ b has. has;
  complete = λ b has. (b, has, stands_itself b);
  rising = rising;
}

-- what stands before all after it, in place of one that it stands for
alike_before : (one other next : Breach) → StandsFor one other → IsBefore other next
    → IsBefore one next
alike_before one other next alike (inl lt) = inl (let e = alike.at in omega (arith, e, lt))
alike_before one other next alike (inr lt) =
    inr (alike.at ∙ lt.0, let e = alike.code in omega (arith, e, lt.1))

put_in : (b : Breach) (list : List Breach) → AllPairs IsBefore list
    → (new : List Breach) × AreAll (Contains (b ∷ list)) new
put_in b [] rising = (
  b ∷ [],
  kept_whole (b ∷ [])
      (put_before b [] (λ other none. absurd (no_member other none)) rising),
)
put_in b (k ∷ ks) rising = by (placed b k) (put_in b ks (rest_rises k ks rising))
  where
    before_all : IsBefore b k → (other : Breach) → Contains (k ∷ ks) other → IsBefore b other
    before_all lt other has = elim (member_cases k ks other has) [
      | inl e ↦ subst (IsBefore b) (sym e) lt
      | inr rest ↦ before_later b k other lt (inl (first_before k ks rising other rest))
    ]

    for_kept : StandsFor b k → AreAll (Contains (b ∷ k ∷ ks)) (b ∷ ks)
    for_kept alike = record {
      sound = λ c has. elim (member_cases b ks c has) [
        | inl e ↦ subst (λ x. Contains (b ∷ k ∷ ks) x) (sym e) (member_first b (k ∷ ks))
        | inr rest ↦ member_later b (k ∷ ks) c (member_later k ks c rest)
      ];
      complete = λ c has. elim (member_cases b (k ∷ ks) c has) [
        | inl e ↦ (b, member_first b ks, subst (StandsFor b) (sym e) (stands_itself b))
        | inr rest ↦ elim (member_cases k ks c rest) [
          | inl e ↦ (b, member_first b ks, subst (StandsFor b) (sym e) alike)
          | inr last ↦ (c, member_later b ks c last, stands_itself c)
        ]
      ];
      rising = put_before b ks
          (λ other has. alike_before b k other alike (first_before k ks rising other has))
          (rest_rises k ks rising);
    }

    for_dropped : StandsFor k b → AreAll (Contains (b ∷ k ∷ ks)) (k ∷ ks)
    for_dropped alike = record {
      sound = λ c has. member_later b (k ∷ ks) c has;
      complete = λ c has. elim (member_cases b (k ∷ ks) c has) [
        | inl e ↦ (k, member_first k ks, subst (StandsFor k) (sym e) alike)
        | inr rest ↦ (c, rest, stands_itself c)
      ];
      rising = rising;
    }

    for_later : IsBefore k b → (new : List Breach) → AreAll (Contains (b ∷ ks)) new
        → AreAll (Contains (b ∷ k ∷ ks)) (k ∷ new)
    for_later lt new is = record {
      sound = λ c has. elim (member_cases k new c has) [
        | inl e ↦ member_later b (k ∷ ks) c
            (subst (λ x. Contains (k ∷ ks) x) (sym e) (member_first k ks))
        | inr rest ↦ elim (member_cases b ks c (is.sound c rest)) [
          | inl e ↦ subst (λ x. Contains (b ∷ k ∷ ks) x) (sym e) (member_first b (k ∷ ks))
          | inr last ↦ member_later b (k ∷ ks) c (member_later k ks c last)
        ]
      ];
      complete = λ c has. elim (member_cases b (k ∷ ks) c has) [
        | inl e ↦ stood_later c (is.complete c
            (subst (λ x. Contains (b ∷ ks) x) (sym e) (member_first b ks)))
        | inr rest ↦ elim (member_cases k ks c rest) [
          | inl e ↦ (k, member_first k new, subst (StandsFor k) (sym e) (stands_itself k))
          | inr last ↦ stood_later c (is.complete c (member_later b ks c last))
        ]
      ];
      rising = put_before k new
          (λ other has. elim (member_cases b ks other (is.sound other has)) [
            | inl e ↦ subst (IsBefore k) (sym e) lt
            | inr last ↦ first_before k ks rising other last
          ]) is.rising;
    }
      where
        stood_later : (c : Breach) → Stood new c → Stood (k ∷ new) c
        stood_later c h = (h.0, member_later k new h.0 h.1, h.2)

    by : Placed b k → (new : List Breach) × AreAll (Contains (b ∷ ks)) new
        → (new : List Breach) × AreAll (Contains (b ∷ k ∷ ks)) new
    by (first lt) rest = (
      b ∷ k ∷ ks,
      kept_whole (b ∷ k ∷ ks)
          (put_before b (k ∷ ks) (before_all lt) rising),
    )
    by (kept alike) rest = (b ∷ ks, for_kept alike)
    by (dropped alike) rest = (k ∷ ks, for_dropped alike)
    by (later lt) rest = (k ∷ rest.0, for_later lt rest.0 rest.1)

-- the breaches of a list in order, each place and code once, with the least note
pub listed : (list : List Breach) → (new : List Breach) × AreAll (Contains list) new
listed [] = ([], kept_whole [] (λ i j d lt within. absurd (omega arith)))
listed (b ∷ bs) = by (listed bs)
  where
    both : (old new : List Breach) → AreAll (Contains bs) old → AreAll (Contains (b ∷ old)) new
        → AreAll (Contains (b ∷ bs)) new
    both old new before after = record {
      sound = λ c has. elim (member_cases b old c (after.sound c has)) [
        | inl e ↦ subst (λ x. Contains (b ∷ bs) x) (sym e) (member_first b bs)
        | inr rest ↦ member_later b bs c (before.sound c rest)
      ];
      complete = λ c has. elim (member_cases b bs c has) [
        | inl e ↦ after.complete c
            (subst (λ x. Contains (b ∷ old) x) (sym e) (member_first b old))
        | inr rest ↦
            let k = before.complete c rest in
            let l = after.complete k.0 (member_later b old k.0 k.1) in
            (l.0, l.1, stands_trans l.0 k.0 c l.2 k.2)
      ];
      rising = after.rising;
    }

    by : (old : List Breach) × AreAll (Contains bs) old
        → (new : List Breach) × AreAll (Contains (b ∷ bs)) new
    by (old, is) = let h = put_in b old is.rising in (h.0, both old h.0 is h.1)

-- the list of what is one list's or of another kind, where that kind has a list
pub all_with : (Is : Breach → Type 0) (more found list : List Breach) → AreAll Is found
    → AreAll (Contains (more ++ found)) list
    → AreAll (λ breach. Contains more breach ⊎ Is breach) list
all_with Is more found list of_kind is = record {
  sound = λ b has. elim (Contains-append_cases more found b (is.sound b has)) [
    | inl in_more ↦ inl in_more
    | inr in_found ↦ inr (of_kind.sound b in_found)
  ];
  complete = λ b given. elim given [
    | inl in_more ↦ is.complete b (Contains-append_left more found b in_more)
    | inr of ↦
        let k = of_kind.complete b of in
        let l = is.complete k.0 (Contains-append_right more found k.0 k.1) in
        (l.0, l.1, stands_trans l.0 k.0 b l.2 k.2)
  ];
  rising = is.rising;
}

-- a graph has a list of breaches
pub some_list : (graph : Graph) → (list : List Breach) × AreBreaches graph list
some_list graph =
    let found = graph_list graph in
    let kept = listed found.0 in
    (kept.0, are_breaches graph found.0 found.0 kept.0 refl found.1 kept.1)
