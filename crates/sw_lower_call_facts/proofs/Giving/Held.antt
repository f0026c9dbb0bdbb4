-- What a closure or a task holds that is noted as isolated to `self` begins with the word of the
-- actor around it.
use Rattle.std.proofs.Common.{◌≡◌, ℕ, zero, suc, ◌+◌, ◌≤◌, ◌<◌, true, List, [], ◌∷◌, Option}
use Rattle.std.proofs.Common.{Some}
use Rattle.std.proofs.Common.{None, flat_map, Contains, refl, sym, ap, ◌∙◌, subst, arith}
use Rattle.std.proofs.lemmas.List.Elements.{All-contains}
use Rattle.std.specs.Prelude.{All}
use Rattle.sw_list.proofs.Members.{none_in}
use Rattle.sw_tree.specs.Keys.{block_keys}
use Rattle.sw_tree.specs.declared.decl.Decl.{Decl}
use Rattle.sw_tree.specs.declared.decl.Decl.TheVariants.{Actor}
use Rattle.sw_tree.specs.declared.decl.FuncTree.{FuncTree}
use Rattle.sw_tree.specs.declared.decl.InitTree.{InitTree}
use Rattle.sw_tree.specs.declared.decl.PropTree.{PropTree}
use Rattle.sw_tree.specs.declared.expr.Expr.{Expr}
use Rattle.sw_tree.specs.declared.name.Name.{Name}
use Rattle.sw_tree.specs.declared.stmt.Block.{Block}
use Rattle.sw_tree.proofs.Counting.{count, hits, hits_same, in_all}
use Rattle.sw_tree.proofs.Counting.{in_option}
use Rattle.sw_tree.proofs.KeyCounts as keys
use Rattle.sw_tree.proofs.KeyCounts.{in_block, in_decl, in_expr, in_func, in_init, in_prop}
use Rattle.sw_decls.specs.declared.signature.AsyncDefault.{AsyncDefault}
use Rattle.sw_decls.specs.declared.signature.Signature.{Signature}
use Rattle.sw_typing_rules.proofs.OneWorld.{distinct_once}
use Rattle.sw_typing_rules.specs.Programs.{said}
use Rattle.sw_typing_rules.specs.Worlds.{World}
use Rattle.sw_isolation_rules.specs.Answers.{Answers, answers_in, for_some}
use Rattle.sw_isolation_rules.specs.Captures.{self_of}
use Rattle.sw_isolation_rules.specs.Kinds.{is_own}
use Rattle.sw_isolation_rules.specs.Noting.{block_notes}
use Rattle.sw_isolation_rules.specs.Programs.{body_notes, decl_notes, declared_body, func_at}
use Rattle.sw_isolation_rules.specs.Programs.{func_context, func_notes, init_notes, inits_notes}
use Rattle.sw_isolation_rules.specs.declared.note.Note.{Note}
use Rattle.sw_isolation_rules.specs.declared.uses.Context.{Context}
use Rattle.sw_typing_facts.proofs.Lists.Listed.{in_first, in_rest}
use Rattle.sw_typing_facts.proofs.Programs.Keyed.{counted_in, counted_where, key_once, one_place}
use Rattle.sw_typing_facts.proofs.Programs.Standing.{Stands}
use Rattle.sw_lower_total_facts.specs.Noted as noted
use Rattle.sw_lower_total_facts.specs.Noted.{held_of}
use Rattle.sw_lower_total_facts.specs.Programs.{IsWelltyped, notes_of}
use Rattle.sw_tree.specs.Scopes.{block_scoped}
use Rattle.sw_lower_total_facts.proofs.Programs.Found.{key_found}
use Rattle.sw_tree.proofs.KeyMembers.{contained}
use Rattle.sw_lower_total_facts.proofs.Standing.Ordered.{owner_of, self_words}
use Rattle.sw_lower_total_facts.proofs.Standing.Owners.{func_owner, init_owner}
use Rattle.sw_lower_total_facts.proofs.Standing.Programs.{func_body_stands, init_body_stands}
use Rattle.sw_lower_call_facts.proofs.BodyNotes.Members.{inits_own, props_own}
use Rattle.sw_lower_call_facts.proofs.BodyNotes.Noted.{AllOwn, join}
use Rattle.sw_lower_call_facts.proofs.BodyNotes.Trees.{block_own}
use Rattle.sw_lower_call_facts.proofs.Giving.Deep.{deep_counted, deep_of, funcs_split, head_func}
use Rattle.sw_lower_call_facts.proofs.Giving.Deep.{head_init, inits_split}
use Rattle.sw_lower_call_facts.proofs.Holding.Noted.{HeldBegins, IsOther, KeyBegins, weaker}
use Rattle.sw_lower_call_facts.proofs.Holding.Trees.{block_holds}

-- what is counted in a first value that is there
valued : (c : ℕ) (expr : Expr) (k : ℕ) → 1 ≤ in_expr expr k → k ≡ c
    → 1 ≤ in_option in_expr (Some expr) c
unfolding in_option
valued c expr k some same = subst (λ at. 1 ≤ in_expr expr at) same some

-- the actor in whose declaration the key stands, and what is held there
pub record HeldIn (decls : List Decl) (world : World) (c : ℕ) : Type 0 where
  pub n : ℕ
  pub g : ℕ
  pub word : Name
  pub props : List PropTree
  pub inits : List InitTree
  pub funcs : List FuncTree
  pub stands : Stands decls n g (Actor word props inits funcs)
  pub counted : 1 ≤ in_decl (Actor word props inits funcs) c
  pub begins : KeyBegins c word.at (notes_of world decls)

module _ (decls : List Decl) (rule : AsyncDefault) (world : World)
    (is : IsWelltyped decls rule world) (c : ℕ) where
  abbrev answers : Answers
  answers = answers_in (said world decls)

  abbrev all : List Note
  all = notes_of world decls

  abbrev pub Good : ℕ → Type 0
  Good key = key ≡ c → HeldIn decls world c

  each_held : {X : Type 0} (f : X → List Note) (xs : List X)
      → ((x : X) → Contains xs x → AllOwn Good (f x)) → AllOwn Good (flat_map f xs)
  each_held f [] each = tt
  each_held f (x ∷ xs) each =
      join Good (f x) (flat_map f xs) (each x (in_first x xs))
      (each_held f xs (λ one has. each one (in_rest x xs one has)))

  -- a body, where its key is another one and what is noted of its block is good
  found_held : (block : Block) (found : Option Signature)
      → ((func : Signature) → found ≡ Some func → (func.key.at ≡ c → ⊥)
      × AllOwn Good (block_notes world answers block (func_context func) []))
      → AllOwn Good (for_some found (declared_body world answers block))
  found_held block None each = tt
  found_held block (Some func) each =
      let one = each func refl in ((λ own same. absurd (one.0 same)), one.1)

  body_held : (key : ℕ) (block : Block)
      → ((func : Signature) → func_at world answers key ≡ Some func → (func.key.at ≡ c → ⊥)
      × AllOwn Good (block_notes world answers block (func_context func) []))
      → AllOwn Good (body_notes world answers key block)
  unfolding body_notes
  body_held key block each = found_held block (func_at world answers key) each

  module _ (n g : ℕ) (word : Name) (props : List PropTree) (inits : List InitTree)
      (funcs : List FuncTree) (stands : Stands decls n g (Actor word props inits funcs)) where
    abbrev decl : Decl
    decl = Actor word props inits funcs

    block_good : (block : Block) (context : Context) (sight : noted.Sight)
        → noted.StandsInText all sight (block_notes world answers block context [])
        (block_keys block) (block_scoped block)
        → (is_own context.iso ≡ true → self_of world context.owner ≡ word.at ∷ [])
        → Contains sight.me word.at → in_block block c ≤ in_decl decl c
        → AllOwn Good (block_notes world answers block context [])
    block_good block context sight here fits sees most = by (count (block_keys block) c) refl where
      by : (k : ℕ) → count (block_keys block) c ≡ k
          → AllOwn Good (block_notes world answers block context [])
      by zero none =
          weaker (IsOther c word.at) Good (λ key other same. absurd (other same))
          (block_notes world answers block context [])
          (block_own world answers (IsOther c word.at) block context []
          (λ key own some same.
          omega (arith, none, some, ap (λ k. count (block_keys block) k) same)))
      by (suc k) some =
          let earlier : word.at < c =
          All-contains (λ key. word.at < key) (block_keys block) c
          (All-contains (λ me. All (λ key. me < key) (block_keys block)) sight.me word.at here.own
          sees)
          (contained (block_keys block) c (omega (arith, some))) in
          let holds = block_holds world answers c word.at earlier block context [] fits in
          weaker (λ key. key ≡ c → KeyBegins c word.at (block_notes world answers block context []))
          Good (λ key begins same. record {
            n = n;
            g = g;
            word = word;
            props = props;
            inits = inits;
            funcs = funcs;
            stands = stands;
            counted = omega (arith, some, most);
            begins = subst (HeldBegins word.at)
                (sym (here.alone.held c
                (contained (block_keys block) c (omega (arith, some))))) (begins same);
          }) (block_notes world answers block context [])
          (holds.begins (distinct_once (block_keys block) here.apart c))

    -- `self` in a member
    selves : (owner : Option ℕ) → owner ≡ owner_of n decl → self_of world owner ≡ word.at ∷ []
    selves owner same =
        ap (self_of world) same ∙ self_words decls rule world is.declared n g decl stands

    sees_self : (owner : Option ℕ) → owner ≡ owner_of n decl → Contains (self_of world owner) word.at
    sees_self owner same =
        subst (λ list. Contains list word.at) (sym (selves owner same)) (in_first word.at [])

    module _ (heads : hits word.at c + in_all in_prop props c + in_all head_init inits c
        + in_all head_func funcs c ≡ 0) where
      tree_held : (tree : FuncTree) → Contains funcs tree
          → AllOwn Good (func_notes world answers tree)
      tree_held tree has =
          body_held tree.word.at tree.body (λ func found. (
            λ same. omega (
              arith,
              heads,
              counted_in head_func funcs tree c has,
              ap (λ at. hits at c)
                  (sym (key_found decls rule world is.declared answers tree.word.at func found)
                  ∙ same),
              hits_same c,
            ),
            block_good tree.body (func_context func) _
                (func_body_stands decls rule world answers is.keyed is.scoped is.declared n g decl
                stands tree func has found)
                (λ own. selves func.owner (owned func found))
                (sees_self func.owner (owned func found))
                (omega (
                  arith,
                  counted_in in_func funcs tree c has,
                  keys.in_func-is tree c,
                  keys.in_decl-Actor word props inits funcs c,
                )),
          )) where
            owned : (func : Signature) → func_at world answers tree.word.at ≡ Some func
                → func.owner ≡ owner_of n decl
            owned func found =
                func_owner decls rule world answers is.keyed is.declared n g decl stands tree func
                has found

      init_held : (init : InitTree) → Contains inits init
          → AllOwn Good (init_notes world answers init)
      init_held init has =
          body_held init.at init.body (λ func found. (
            λ same. omega (
              arith,
              heads,
              counted_in head_init inits init c has,
              ap (λ at. hits at c)
                  (sym (key_found decls rule world is.declared answers init.at func found)
                  ∙ same),
              hits_same c,
            ),
            block_good init.body (func_context func) _
                (init_body_stands decls rule world answers is.keyed is.scoped is.declared n g decl
                stands init func has found)
                (λ own. selves func.owner (owned func found))
                (sees_self func.owner (owned func found))
                (omega (
                  arith,
                  counted_in in_init inits init c has,
                  keys.in_init-is init c,
                  keys.in_decl-Actor word props inits funcs c,
                )),
          )) where
            owned : (func : Signature) → func_at world answers init.at ≡ Some func
                → func.owner ≡ owner_of n decl
            owned func found =
                init_owner decls rule world answers is.keyed is.declared n g decl stands init func
                has found

      inits_held : (some : List InitTree) → ((init : InitTree) → Contains some init
          → AllOwn Good (init_notes world answers init))
          → AllOwn Good (inits_notes world answers word some)
      inits_held [] each =
          inits_own world answers Good word []
          (λ none func found own same.
          absurd (omega (
            arith,
            heads,
            ap (λ at. hits at c)
                (sym (key_found decls rule world is.declared answers word.at func found) ∙ same),
            hits_same c,
          ))) (λ init has. absurd (none_in init has))
      inits_held (init ∷ some) each = each_held (init_notes world answers) (init ∷ some) each

      actor_held : AllOwn Good (decl_notes world answers n decl)
      unfolding decl_notes
      actor_held =
          join Good _ _
          (join Good _ _
          (props_own world answers Good n props (λ prop has shape there own. (
            λ same. absurd (omega (
              arith,
              heads,
              counted_in in_prop props prop c has,
              keys.in_prop-is prop c,
              ap (λ at. hits at c) same,
              hits_same c,
            )),
            λ expr given k some same. absurd (omega (
              arith,
              heads,
              counted_in in_prop props prop c has,
              keys.in_prop-is prop c,
              ap (λ value. in_option in_expr value c) given,
              valued c expr k some same,
            )),
          )))
          (inits_held inits init_held))
          (each_held (func_notes world answers) funcs tree_held)

  -- Where the key stands in a block or a first value, what is noted of each actor is good.
  pub actors_held : (m h : ℕ) (deep : Decl) → Stands decls m h deep → 1 ≤ deep_of deep c
      → (n g : ℕ) (word : Name) (props : List PropTree) (inits : List InitTree)
      (funcs : List FuncTree) (stands : Stands decls n g (Actor word props inits funcs))
      → AllOwn Good (decl_notes world answers n (Actor word props inits funcs))
  actors_held m h deep there some n g word props inits funcs stands =
      actor_held n g word props inits funcs stands (by heads refl) where
        decl : Decl
        decl = Actor word props inits funcs

        heads : ℕ
        heads = hits word.at c + in_all in_prop props c + in_all head_init inits c
            + in_all head_func funcs c

        split : heads + deep_of decl c ≤ in_decl decl c
        split = omega (
          arith,
          inits_split c inits,
          funcs_split c funcs,
          keys.in_decl-Actor word props inits funcs c,
        )

        by : (k : ℕ) → heads ≡ k → heads ≡ 0
        by zero none = none
        by (suc k) more =
            let same = one_place decls n g decl m h deep c is.keyed stands there
            (omega (arith, more, split))
            (omega (arith, some, deep_counted deep c)) in
            absurd (omega (
              arith,
              more,
              split,
              some,
              ap (λ one. deep_of one c) same.same,
              counted_where 0 0 decls n g decl c stands,
              key_once decls is.keyed c,
            ))
