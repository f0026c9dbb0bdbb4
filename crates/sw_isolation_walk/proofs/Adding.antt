-- How notes are added to a list one after the other.
use Rattle.std.proofs.Common.{◌≡◌, ◌+◌, ◌<◌, ℕ, List, [], ◌∷◌, ◌++◌, Result, OnOk, append_assoc, ap}
use Rattle.std.proofs.Common.{drop, get_or, length, map, sym, ◌∙◌}
use Rattle.std.proofs.lemmas.List.{append-nil, drop_more}
use Rattle.std.proofs.lemmas.Result.{on_ok_weaker}
use Rattle.sw_isolation_rules.specs.Noting.{Notes, all_of}
use Rattle.sw_isolation_rules.specs.declared.note.Note.{Note}
use Rattle.sw_isolation_rules.specs.declared.uses.Context.{Context}

-- one thing is noted
pub alone : {X E : Type 0} (r : Result X E) (old now one whole : List Note) → whole ≡ one
    → OnOk r (now ≡ old ++ one) → OnOk r (now ≡ old ++ whole)
alone r old now one whole w h =
    on_ok_weaker r (λ (n : now ≡ old ++ one). n ∙ ap (λ x. old ++ x) (sym w)) h

-- one thing, and then another
pub two : {X E : Type 0} (r : Result X E) (old mid now one next whole : List Note)
    → mid ≡ old ++ one → whole ≡ one ++ next → OnOk r (now ≡ mid ++ next)
    → OnOk r (now ≡ old ++ whole)
two r old mid now one next whole m w h =
    on_ok_weaker r (λ (n : now ≡ mid ++ next). n ∙ (ap (λ x. x ++ next) m
    ∙ (append_assoc old one next ∙ ap (λ x. old ++ x) (sym w)))) h

-- two things in one
pub both : (old mid now one next : List Note) → mid ≡ old ++ one → now ≡ mid ++ next
    → now ≡ old ++ (one ++ next)
both old mid now one next m n = n ∙ (ap (λ x. x ++ next) m ∙ append_assoc old one next)

-- of several things that are left, one is noted
pub one_more : (old mid now one rest left whole : List Note) → now ≡ mid ++ one
    → left ≡ one ++ rest → mid ++ left ≡ old ++ whole → now ++ rest ≡ old ++ whole
one_more old mid now one rest left whole n p h =
    ap (λ x. x ++ rest) n
    ∙ (append_assoc mid one rest ∙ (ap (λ x. mid ++ x) (sym p) ∙ h))

-- the first of the things that are left
pub next_of : {A : Type 0} (f : A → Notes) (xs : List A) (i : ℕ) (x : A) (context : Context)
    (listed : List ℕ) → i < length xs → x ≡ get_or xs i x
    → all_of (map f (drop i xs)) context listed
    ≡ f x context listed ++ all_of (map f (drop (i + 1) xs)) context listed
next_of f xs i x context listed lt is =
    ap (λ ys. all_of (map f ys) context listed)
    (drop_more xs i x lt ∙ ap (λ y. y ∷ drop (i + 1) xs) (sym is))

-- nothing is noted
pub none : (old whole : List Note) → whole ≡ [] → old ≡ old ++ whole
none old whole e = sym (ap (λ x. old ++ x) e ∙ append-nil old)
