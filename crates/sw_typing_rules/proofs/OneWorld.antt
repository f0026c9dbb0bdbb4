-- What a program declares is one thing for the rules of types.
use Rattle.std.proofs.Common.{◌≡◌, ℕ, zero, suc, ◌+◌, ◌≤◌, List, [], ◌∷◌, ◌++◌, map, length}
use Rattle.std.proofs.Common.{Option, Some, Contains, nat_eq, if◌then◌else◌, ◌==◌, ap, refl, sym}
use Rattle.std.proofs.Common.{subst, ◌∙◌, arith, Bool, true, false, ◌<◌, ◌⊎◌, inl, inr, get_or}
use Rattle.std.proofs.Common.{flat_map}
use Rattle.std.proofs.lemmas.Bool.{cases_lt}
use Rattle.std.proofs.lemmas.List.{get_or_default}
use Rattle.std.proofs.lemmas.Grind.{common_steps}
use Rattle.std.proofs.lemmas.List.Elements.{Contains-append_right}
use Rattle.std.proofs.lemmas.List.Sorted.{IsPermutation-sym, IsPermutation-trans}
use Rattle.std.proofs.lemmas.List.Sorted.{Contains-permutation, sum_by-IsPermutation}
use Rattle.std.proofs.lemmas.List.Sorted.{IsNonDecreasingBy-short, IsPermutation-cons}
use Rattle.std.proofs.lemmas.List.Sorted.{IsPermutation-middle, IsPermutation-refl}
use Rattle.std.proofs.lemmas.List.Sums.{sum_by-cons}
use Rattle.std.specs.List.{AllByRecursion, IsDistinct, sum_by}
use Rattle.std.specs.List.Sorted.{IsNonDecreasingBy, IsPermutation}
use Rattle.sw_tree.proofs.Counting.{Weight, hits, hits_same, in_all, in_all-append, in_all-cons}
use Rattle.sw_tree.proofs.Counting.{in_all-nil}
use Rattle.sw_tree.proofs.KeyCounts as counts
use Rattle.sw_tree.proofs.KeyCounts.{in_func, in_init, in_decl}
use Rattle.sw_tree.specs.Contents.{AreKeyed}
use Rattle.sw_tree.specs.Keys.{keys_of}
use Rattle.sw_tree.specs.declared.decl.Decl.{Decl}
use Rattle.sw_tree.specs.declared.decl.Decl.TheVariants.{Entry, Struct, Enum, Class, Actor}
use Rattle.sw_tree.specs.declared.decl.Decl.TheVariants.{GlobalActor, Func, Global}
use Rattle.sw_tree.specs.declared.decl.FuncTree.{FuncTree}
use Rattle.sw_tree.specs.declared.decl.InitTree.{InitTree}
use Rattle.sw_tree.specs.declared.name.Name.{Name}
use Rattle.sw_types.specs.declared.isolation.Iso.{Iso}
use Rattle.sw_types.specs.declared.isolation.Iso.TheVariants as iso
use Rattle.sw_decl_words.specs.Evident.{meanings_of}
use Rattle.sw_decl_words.specs.Shaped.{written_actor}
use Rattle.sw_decl_words.specs.Words.{shapes_made, top_meaning}
use Rattle.sw_decl_words.specs.declared.words.Meaning.{Meaning}
use Rattle.sw_decls.specs.Declaring.{IsDeclared, key_place, made_shapes, maker_keys}
use Rattle.sw_decls.specs.Declaring.{numbered}
use Rattle.sw_decls.specs.Signatures.{actor_iso, func_of, funcs_from, funcs_of, init_of, inits_of}
use Rattle.sw_decls.specs.Signatures.{global_of}
use Rattle.sw_decls.specs.declared.declaring.Decls.{Decls}
use Rattle.sw_decls.specs.declared.signature.AsyncDefault.{AsyncDefault}
use Rattle.sw_decls.specs.declared.signature.Signature.{Signature}
use Rattle.sw_typing_rules.specs.Worlds.{IsWorldOf, World, world_of}

unlike : (at : ℕ) (ats : List ℕ) → AllByRecursion (λ other. nat_eq at other ≡ false) ats
    → in_all hits ats at ≡ 0
unfolding in_all hits
unlike at [] differ = refl
unlike at (other ∷ ats) differ =
    let apart = differ.0 in
    let more = unlike at ats differ.1 in
    grind (arith, common_steps)

-- Each number stands once at most in a list without repeats.
pub distinct_once : (ats : List ℕ) → IsDistinct nat_eq ats → (k : ℕ) → in_all hits ats k ≤ 1
unfolding in_all hits IsDistinct
distinct_once [] differ k = omega arith
distinct_once (at ∷ ats) differ k =
    by (nat_eq at k) refl (unlike at ats differ.0) (distinct_once ats differ.1 k)
  where
    by : (same : Bool) → nat_eq at k ≡ same → in_all hits ats at ≡ 0 → in_all hits ats k ≤ 1
        → in_all hits (at ∷ ats) k ≤ 1
    by true is none more =
        let here : at ≡ k = grind (arith, common_steps) in
        let empty = subst (λ n. in_all hits ats n ≡ 0) here none in
        grind (arith, common_steps)
    by false is none more = grind (arith, common_steps)

-- lists of one key each, in order

-- the key of a function
abbrev pub keyed : Signature → Weight
keyed func = hits (key_place func)

contained_once : (funcs : List Signature) (func : Signature) → Contains funcs func
    → 1 ≤ in_all keyed funcs (key_place func)
contained_once [] func has = let lt = has.1 in absurd (omega (arith, lt))
contained_once (one ∷ funcs) func (zero, lt, is) =
    let same = ap key_place is in
    let hit = subst (λ n. hits n (key_place func) ≡ 1) (sym same) (hits_same (key_place func)) in
    omega (arith, in_all-cons keyed one funcs (key_place func), hit)
contained_once (one ∷ funcs) func (suc k, lt, is) =
    omega (
      arith,
      in_all-cons keyed one funcs (key_place func),
      contained_once funcs func (k, omega (arith, lt), is),
    )

abbrev Once : List Signature → Type 0
Once funcs = (k : ℕ) → in_all keyed funcs k ≤ 1

once_more : (func : Signature) (funcs : List Signature) → Once (func ∷ funcs) → Once funcs
once_more func funcs once k =
    let all = once k in
    omega (arith, in_all-cons keyed func funcs k, all)

order_more : (func : Signature) (funcs : List Signature)
    → IsNonDecreasingBy key_place (func ∷ funcs) → IsNonDecreasingBy key_place funcs
order_more func funcs order i j d le lt =
    order (suc i) (suc j) d (omega (arith, le)) (omega (arith, lt))

first_least : (func : Signature) (funcs : List Signature) (other : Signature)
    → IsNonDecreasingBy key_place (func ∷ funcs) → Contains (func ∷ funcs) other
    → key_place func ≤ key_place other
first_least func funcs other order (k, lt, is) =
    let le = order 0 k other (omega arith) lt in
    omega (arith, le, ap key_place is)

-- of a list with one function of each key, the rest has none of the first one's key
apart : (func : Signature) (funcs : List Signature) (other : Signature) → Once (func ∷ funcs)
    → Contains funcs other → key_place other ≡ key_place func → ⊥
apart func funcs other once has same =
    let twice = once (key_place func) in
    let there = subst (λ k. 1 ≤ in_all keyed funcs k) same (contained_once funcs other has) in
    omega (
      arith,
      in_all-cons keyed func funcs (key_place func),
      hits_same (key_place func),
      twice,
      there,
    )

first_is : (func : Signature) (funcs : List Signature) (other : Signature) → Once (func ∷ funcs)
    → Contains (func ∷ funcs) other → key_place other ≡ key_place func → func ≡ other
first_is func funcs other once (zero, lt, is) same = is
first_is func funcs other once (suc k, lt, is) same =
    absurd (apart func funcs other once (k, omega (arith, lt), is) same)

abbrev Holds : List Signature → List Signature → Type 0
Holds funcs others = (one : Signature) → Contains funcs one → Contains others one

-- what the rests of two lists with the same first function hold
rest_holds : (func : Signature) (funcs others : List Signature) → Once (func ∷ funcs)
    → Holds (func ∷ funcs) (func ∷ others) → Holds funcs others
rest_holds func funcs others once holds one has =
    by (holds one (Contains-append_right (func ∷ []) funcs one has))
  where
    by : Contains (func ∷ others) one → Contains others one
    by (zero, lt, is) = absurd (apart func funcs one once has (sym (ap key_place is)))
    by (suc k, lt, is) = (k, omega (arith, lt), is)

one_order : (funcs others : List Signature) → IsNonDecreasingBy key_place funcs
    → IsNonDecreasingBy key_place others → Once funcs → Once others → Holds funcs others
    → Holds others funcs → funcs ≡ others
one_order [] [] up down once single there back = refl
one_order [] (other ∷ others) up down once single there back =
    let lt = (back other (0, omega arith, refl)).1 in absurd (omega (arith, lt))
one_order (func ∷ funcs) [] up down once single there back =
    let lt = (there func (0, omega arith, refl)).1 in absurd (omega (arith, lt))
one_order (func ∷ funcs) (other ∷ others) up down once single there back =
    let here = back other (0, omega arith, refl) in
    let le = first_least func funcs other up here in
    let ge = first_least other others func down (there func (0, omega arith, refl)) in
    let same : func ≡ other = first_is func funcs other once here (omega (arith, le, ge)) in
    let ends = subst (λ f. Once (f ∷ others)) (sym same) single in
    let into = subst (λ f. Holds (func ∷ funcs) (f ∷ others)) (sym same) there in
    let onto = subst (λ f. Holds (f ∷ others) (func ∷ funcs)) (sym same) back in
    let rest = one_order funcs others (order_more func funcs up) (order_more other others down)
    (once_more func funcs once) (once_more other others single)
    (rest_holds func funcs others once into) (rest_holds func others funcs ends onto) in
    ap (λ f. f ∷ funcs) same ∙ ap (λ more. other ∷ more) rest

-- the functions of a program have keys of their own

-- the word of a struct or an enum
abbrev pub value_word : Decl → Weight
value_word (Entry word written at is_async body) k = 0
value_word (Struct word conforms fields funcs) k = hits word.at k
value_word (Enum word conforms cases funcs) k = hits word.at k
value_word (Class written word conforms props inits funcs) k = 0
value_word (Actor word props inits funcs) k = 0
value_word (GlobalActor word made) k = 0
value_word (Func func) k = 0
value_word (Global global) k = 0

one_if : (test : Bool) (func : Signature) (k : ℕ)
    → in_all keyed (if test then func ∷ [] else []) k ≤ keyed func k
unfolding in_all
one_if true func k = omega arith
one_if false func k = omega arith

module _ (known : ℕ → Option Meaning) where
  keyed_funcs : (rule : AsyncDefault) (owner : Option ℕ) (isolation : Iso) (funcs : List FuncTree)
      (k : ℕ) → in_all keyed (map (func_of known rule owner isolation) funcs) k
      ≤ in_all in_func funcs k
  unfolding in_all
  keyed_funcs rule owner isolation [] k = omega arith
  keyed_funcs rule owner isolation (func ∷ funcs) k =
      omega (arith, counts.in_func-is func k, keyed_funcs rule owner isolation funcs k)

  abbrev written_inits : Name → ℕ → Iso → List InitTree → List Signature
  written_inits word number isolation inits =
      map (λ (one : InitTree). init_of known (record { at = one.at; id = word.id }) number
      isolation one.params) inits

  keyed_written : (word : Name) (number : ℕ) (isolation : Iso) (inits : List InitTree) (k : ℕ)
      → in_all keyed (written_inits word number isolation inits) k ≤ in_all in_init inits k
  unfolding in_all
  keyed_written word number isolation [] k = omega arith
  keyed_written word number isolation (init ∷ inits) k =
      omega (arith, counts.in_init-is init k, keyed_written word number isolation inits k)

  keyed_inits : (word : Name) (number : ℕ) (isolation : Iso) (inits : List InitTree) (k : ℕ)
      → in_all keyed (inits_of known word number isolation inits) k
      ≤ hits word.at k + in_all in_init inits k
  keyed_inits word number isolation inits k =
      let one = init_of known word number isolation [] in
      let none = length inits == 0 in
      omega (
        arith,
        in_all-append keyed (if none then one ∷ [] else [])
            (written_inits word number isolation inits) k,
        one_if none one k,
        keyed_written word number isolation inits k,
      )

  keyed_object : (word : Name) (rule : AsyncDefault) (number : ℕ) (isolation : Iso)
      (inits : List InitTree) (funcs : List FuncTree) (k : ℕ)
      → in_all keyed (inits_of known word number isolation inits
      ++ map (func_of known rule (Some number) isolation) funcs) k
      ≤ hits word.at k + in_all in_init inits k + in_all in_func funcs k
  keyed_object word rule number isolation inits funcs k =
      omega (
        arith,
        in_all-append keyed (inits_of known word number isolation inits)
            (map (func_of known rule (Some number) isolation) funcs) k,
        keyed_inits word number isolation inits k,
        keyed_funcs rule (Some number) isolation funcs k,
      )

  keyed_of : (rule : AsyncDefault) (number : ℕ) (decl : Decl) (k : ℕ)
      → in_all keyed (funcs_of known rule number decl) k + value_word decl k ≤ in_decl decl k
  unfolding funcs_of in_all
  keyed_of rule number (Entry word written at is_async body) k =
      omega (arith, counts.in_decl-Entry word written at is_async body k)
  keyed_of rule number (Struct word conforms fields funcs) k =
      omega (
        arith,
        counts.in_decl-Struct word conforms fields funcs k,
        keyed_funcs rule (Some number) iso.Free funcs k,
      )
  keyed_of rule number (Enum word conforms cases funcs) k =
      omega (
        arith,
        counts.in_decl-Enum word conforms cases funcs k,
        keyed_funcs rule (Some number) iso.Free funcs k,
      )
  keyed_of rule number (Class written word conforms props inits funcs) k =
      omega (
        arith,
        counts.in_decl-Class written word conforms props inits funcs k,
        keyed_object word rule number (actor_iso (written_actor known written)) inits funcs k,
      )
  keyed_of rule number (Actor word props inits funcs) k =
      omega (
        arith,
        counts.in_decl-Actor word props inits funcs k,
        keyed_object word rule number iso.Own inits funcs k,
      )
  keyed_of rule number (GlobalActor word made) k = omega arith
  keyed_of rule number (Func func) k =
      omega (arith, counts.in_decl-Func func k, counts.in_func-is func k)
  keyed_of rule number (Global global) k = omega arith

  -- The keys of the functions, and the words of the structs and enums, are keys of the program.
  pub keyed_from : (rule : AsyncDefault) (number : ℕ) (decls : List Decl) (k : ℕ)
      → in_all keyed (funcs_from known rule number decls) k + in_all value_word decls k
      ≤ in_all in_decl decls k
  unfolding in_all
  keyed_from rule number [] k = omega arith
  keyed_from rule number (decl ∷ decls) k =
      omega (
        arith,
        in_all-append keyed (funcs_of known rule number decl)
            (funcs_from known rule (number + shapes_made decl) decls) k,
        keyed_of rule number decl k,
        keyed_from rule (number + shapes_made decl) decls k,
      )

  funcs_once : (rule : AsyncDefault) (decls : List Decl) → AreKeyed decls
      → Once (funcs_from known rule 0 decls)
  funcs_once rule decls differ k =
      let once = distinct_once (keys_of decls) differ k in
      omega (arith, keyed_from rule 0 decls k, counts.in_decls decls k, once)

weighed : (funcs : List Signature) (k : ℕ)
    → in_all keyed funcs k ≡ sum_by (λ func. keyed func k) funcs
weighed [] k = in_all-nil keyed k
weighed (func ∷ funcs) k =
    omega (
      arith,
      in_all-cons keyed func funcs k,
      weighed funcs k,
      sum_by-cons (λ (f : Signature). keyed f k) func funcs,
    )

moved_once : (funcs moved : List Signature) → IsPermutation funcs moved → Once funcs → Once moved
moved_once funcs moved are once k =
    let all = once k in
    omega (
      arith,
      weighed funcs k,
      weighed moved k,
      sum_by-IsPermutation (λ (f : Signature). keyed f k) funcs moved are,
      all,
    )

one_funcs : (all funcs others : List Signature) → Once all → IsPermutation all funcs
    → IsNonDecreasingBy key_place funcs → IsPermutation all others
    → IsNonDecreasingBy key_place others → funcs ≡ others
one_funcs all funcs others once first up second down =
    let there = IsPermutation-trans funcs all others (IsPermutation-sym all funcs first) second in
    let back = IsPermutation-sym funcs others there in
    one_order funcs others up down (moved_once all funcs first once)
    (moved_once all others second once)
    (λ one. Contains-permutation funcs others one there)
    (λ one. Contains-permutation others funcs one back)

-- a list in order, after one function whose key comes after none of theirs
order_first : (func : Signature) (funcs : List Signature) → IsNonDecreasingBy key_place funcs
    → ((one : Signature) → Contains funcs one → key_place func ≤ key_place one)
    → IsNonDecreasingBy key_place (func ∷ funcs)
order_first func funcs order least zero zero d le lt = omega arith
order_first func funcs order least zero (suc j) d le lt =
    let within : j < length funcs = omega (arith, lt) in
    least (get_or funcs j d) (j, within, get_or_default funcs j _ d within)
order_first func funcs order least (suc i) zero d le lt = absurd (omega (arith, le))
order_first func funcs order least (suc i) (suc j) d le lt =
    order i j d (omega (arith, le)) (omega (arith, lt))

-- the first of a list in order, beside one more function whose key isn't before its own
still_least : (func one : Signature) (funcs : List Signature)
    → IsNonDecreasingBy key_place (one ∷ funcs) → key_place one ≤ key_place func
    → (other : Signature) → Contains (func ∷ funcs) other → key_place one ≤ key_place other
still_least func one funcs order before other (zero, lt, is) =
    omega (arith, before, ap key_place is)
still_least func one funcs order before other (suc k, lt, is) =
    first_least one funcs other order (suc k, omega (arith, lt), is)

-- the same functions, in the order of their keys
abbrev InOrder : List Signature → Type 0
InOrder funcs =
    (all : List Signature) × IsPermutation funcs all × IsNonDecreasingBy key_place all

-- one more function
ordered_one : (func : Signature) (funcs : List Signature) → IsNonDecreasingBy key_place funcs
    → InOrder (func ∷ funcs)
ordered_one func [] order = (
  func ∷ [],
  IsPermutation-refl (func ∷ []),
  IsNonDecreasingBy-short key_place (func ∷ [])
      (omega arith),
)
ordered_one func (one ∷ funcs) order =
    by (cases_lt (key_place one) (key_place func))
    (ordered_one func funcs (order_more one funcs order))
  where
    by : (key_place one < key_place func) ⊎ (key_place func ≤ key_place one)
        → InOrder (func ∷ funcs) → InOrder (func ∷ one ∷ funcs)
    by (inl before) (all, same, up) = (
      one ∷ all,
      IsPermutation-trans (func ∷ one ∷ funcs) (one ∷ func ∷ funcs) (one ∷ all)
          (IsPermutation-middle (func ∷ []) one funcs) (IsPermutation-cons one _ _ same),
      order_first one all up
          (λ other has. still_least func one funcs order (omega (arith, before)) other
          (Contains-permutation all (func ∷ funcs) other
          (IsPermutation-sym (func ∷ funcs) all same) has)),
    )
    by (inr after) rest = (
      func ∷ one ∷ funcs,
      IsPermutation-refl (func ∷ one ∷ funcs),
      order_first func (one ∷ funcs) order
          (λ other has. let le = first_least one funcs other order has in omega (arith, after, le)),
    )

ordered_all : (funcs : List Signature) → InOrder funcs
ordered_all [] = ([], IsPermutation-refl [], IsNonDecreasingBy-short key_place [] (omega arith))
ordered_all (func ∷ funcs) =
    let (all, same, up) = ordered_all funcs in
    let (more, moved, order) = ordered_one func all up in (
      more,
      IsPermutation-trans (func ∷ funcs) (func ∷ all) more (IsPermutation-cons func _ _ same)
          moved,
      order,
    )

pub some_world : (decls : List Decl) (rule : AsyncDefault)
    → (world : World) × IsWorldOf decls rule world
some_world decls rule =
    let (funcs, same, order) = ordered_all (funcs_from (top_meaning decls) rule 0 decls) in (
      record {
        shapes = made_shapes decls;
        funcs = funcs;
        globals = flat_map (global_of (meanings_of decls)) decls;
        numbers = numbered funcs;
        makers = flat_map maker_keys decls;
        known = meanings_of decls;
      },
      record {
        shapes = refl;
        funcs = same;
        ordered = order;
        globals = refl;
        numbers = λ key. refl;
        makers = refl;
        words = λ id. refl;
        members = λ shape word. refl;
      },
    )

pub one_world : (decls : List Decl) (rule : AsyncDefault) (one other : World) → AreKeyed decls
    → IsWorldOf decls rule one → IsWorldOf decls rule other → one ≡ other
one_world decls rule one other keyed first second =
    let shapes = first.shapes ∙ sym second.shapes in
    let funcs = one_funcs (funcs_from (top_meaning decls) rule 0 decls) one.funcs other.funcs
    (funcs_once (top_meaning decls) rule decls keyed) first.funcs first.ordered second.funcs
    second.ordered in
    let globals = first.globals ∙ sym second.globals in
    let makers = first.makers ∙ sym second.makers in
    let numbers : (key : ℕ) → one.numbers key ≡ other.numbers key =
    λ key. first.numbers key ∙ ap (λ all. numbered all key) funcs ∙ sym (second.numbers key) in
    let words : (id : ℕ) → one.known.top id ≡ other.known.top id =
    λ id. first.words id ∙ sym (second.words id) in
    let members : (shape word : ℕ) → one.known.members shape word
    ≡ other.known.members shape word =
    λ shape word. first.members shape word ∙ sym (second.members shape word) in
    λ i. record {
      shapes = shapes i;
      funcs = funcs i;
      globals = globals i;
      numbers = λ key. numbers key i;
      makers = makers i;
      known = record {
        top = λ id. words id i;
        members = λ shape word. members shape word i;
      };
    }

pub declared_world : (decls : List Decl) (rule : AsyncDefault) (made : Decls)
    → IsDeclared decls rule made → IsWorldOf decls rule (world_of made)
declared_world decls rule made is = record {
  shapes = is.shapes;
  funcs = is.funcs;
  ordered = is.ordered;
  globals = is.globals;
  numbers = is.numbers;
  makers = is.makers;
  words = is.words;
  members = is.members;
}

pub declared_once : (decls : List Decl) (rule : AsyncDefault) (one other : Decls) → AreKeyed decls
    → IsDeclared decls rule one → IsDeclared decls rule other → world_of one ≡ world_of other
declared_once decls rule one other keyed first second =
    one_world decls rule (world_of one) (world_of other) keyed
    (declared_world decls rule one first) (declared_world decls rule other second)
