-- One entry more in its chain.
use Rattle.std.proofs.Common.{◌≡◌, ◌∙◌, ◌+◌, ◌<◌, ◌≤◌, ◌++◌, ◌∷◌, [], ◌⊎◌, inl, inr, ℕ, List, length, map, ap, arith, slice_set, subst, sym}
use Rattle.std.proofs.Math.Seq.{get_or-append_seam}
use Rattle.std.proofs.lemmas.Bool.{cases_eq}
use Rattle.std.proofs.lemmas.List.{ext_get_or, get_or-map, get_or-set_other, get_or-set_same, get_or_append_left, length-append, length-map, length-set}
use Rattle.cp_states.specs.declared.chain.Link.{Link}
use Rattle.cp_states.specs.Chains.{AreChained, AreLinked, chain_at, chain_of, head_at, IsLast, link_at, no_link}

-- what is last below a limit does not depend on the entries from there on
pub kept : (links others : List Link) (chains chain limit place : ℕ) → ((i : ℕ) → i < limit → (link_at others i).hash ≡ (link_at links i).hash) → IsLast links chains chain limit place → IsLast others chains chain limit place
kept links others chains chain limit place same last =
    record {
      below = last.below;
      here = λ i e. ap (λ hash. chain_of hash chains) (same i (omega (arith, e, last.below))) ∙ last.here i e;
      after = λ i from to e. last.after i from to (sym (ap (λ hash. chain_of hash chains) (same i to)) ∙ e);
    }

-- an entry of another chain changes nothing
pub passed : (links : List Link) (chains chain limit place : ℕ) → (chain_at links chains limit ≡ chain → ⊥) → IsLast links chains chain limit place → IsLast links chains chain (limit + 1) place
passed links chains chain limit place other last =
    record {
      below = omega (arith, last.below);
      here = last.here;
      after = λ i from to e. go i from to e (cases_eq i limit);
    }
  where
    go : (i : ℕ) → place ≤ i → i < limit + 1 → chain_at links chains i ≡ chain → (i ≡ limit) ⊎ (i ≡ limit → ⊥) → ⊥
    go i from to e (inl is) = other (subst (λ k. chain_at links chains k ≡ chain) is e)
    go i from to e (inr not) = last.after i from (omega (arith, to, not)) e

-- an entry is the last one of its chain
pub topmost : (links : List Link) (chains chain limit place : ℕ) → place ≡ limit + 1 → chain_at links chains limit ≡ chain → IsLast links chains chain (limit + 1) place
topmost links chains chain limit place is e =
    record {
      below = omega (arith, is);
      here = λ i at. subst (λ k. chain_at links chains k ≡ chain) (omega (arith, is, at)) e;
      after = λ i from to here. absurd (omega (arith, is, from, to));
    }

-- one entry more: its chain begins with it, and it goes on with what that chain began with
pub linked : (chains limit : ℕ) (head front : ℕ → ℕ) (links others : List Link) → ((i : ℕ) → i < limit → link_at others i ≡ link_at links i) → chain_at others chains limit < chains → (link_at others limit).next ≡ head (chain_at others chains limit) → ((chain : ℕ) → (chain ≡ chain_at others chains limit → ⊥) → front chain ≡ head chain) → front (chain_at others chains limit) ≡ limit + 1 → AreLinked chains head links limit → AreLinked chains front others (limit + 1)
linked chains limit head front links others same within next off on all =
    record {
      first = λ chain lt. first chain lt (cases_eq chain (chain_at others chains limit));
      next = λ i lt. rest i lt (cases_eq i limit);
    }
  where
    alike : (i : ℕ) → i < limit → (link_at others i).hash ≡ (link_at links i).hash
    alike i lt = ap (λ link. link.hash) (same i lt)

    first : (chain : ℕ) → chain < chains → (chain ≡ chain_at others chains limit) ⊎ (chain ≡ chain_at others chains limit → ⊥) → IsLast others chains chain (limit + 1) (front chain)
    first chain lt (inl e) = topmost others chains chain limit (front chain) (ap front e ∙ on) (sym e)
    first chain lt (inr not) = subst (λ place. IsLast others chains chain (limit + 1) place) (sym (off chain not)) (passed others chains chain limit (head chain) (λ e. not (sym e)) (kept links others chains chain limit (head chain) alike (all.first chain lt)))

    rest : (i : ℕ) → i < limit + 1 → (i ≡ limit) ⊎ (i ≡ limit → ⊥) → IsLast others chains (chain_at others chains i) i (link_at others i).next
    rest i lt (inl e) = subst (λ k. IsLast others chains (chain_at others chains k) k (link_at others k).next) (sym e) (subst (λ place. IsLast others chains (chain_at others chains limit) limit place) (sym next) (kept links others chains (chain_at others chains limit) limit (head (chain_at others chains limit)) alike (all.first (chain_at others chains limit) within)))
    rest i lt (inr not) =
        let below : i < limit = omega (arith, lt, not) in
        subst (λ link. IsLast others chains (chain_of link.hash chains) i link.next) (sym (same i below)) (kept links others chains (chain_at links chains i) i (link_at links i).next (λ j to. alike j (omega (arith, to, below))) (all.next i below))

-- one entry more at the end
pub pushed : (heads : List ℕ) (links others : List Link) (link : Link) (chain count : ℕ) → count ≡ length links → chain < length heads → chain ≡ chain_of link.hash (length heads) → link.next ≡ head_at heads chain → others ≡ links ++ link ∷ [] → AreChained heads links → AreChained (slice_set heads chain (count + 1)) others
pushed heads links others link chain count long within is next e old =
    record {
      all = subst (λ n. AreLinked n (head_at front) others (length others)) (sym (length-set heads chain (count + 1))) (subst (λ n. AreLinked (length heads) (head_at front) others n) (sym longer) all);
      some = λ none. absurd (omega (arith, within, length-set heads chain (count + 1), none));
    }
  where
    front : List ℕ
    front = slice_set heads chain (count + 1)

    longer : length others ≡ length links + 1
    longer = ap length e ∙ length-append links (link ∷ [])

    new : link_at others (length links) ≡ link
    new = ap (λ ls. link_at ls (length links)) e ∙ get_or-append_seam links link [] no_link

    here : chain_at others (length heads) (length links) ≡ chain
    here = ap (λ l. chain_of l.hash (length heads)) new ∙ sym is

    all : AreLinked (length heads) (head_at front) others (length links + 1)
    all =
        linked (length heads) (length links) (head_at heads) (head_at front) links others
        (λ i lt. ap (λ ls. link_at ls i) e ∙ get_or_append_left links (link ∷ []) no_link i lt)
        (subst (λ c. c < length heads) (sym here) within)
        (ap (λ l. l.next) new ∙ next ∙ ap (head_at heads) (sym here))
        (λ c not. get_or-set_other heads chain c (count + 1) 0 (λ eq. not (eq ∙ sym here)))
        (ap (head_at front) here ∙ get_or-set_same heads chain (count + 1) 0 within ∙ ap (λ n. n + 1) long)
        old.all

-- the hash of an entry
hash_of : Link → ℕ
hash_of link = link.hash

-- the same hashes, one by one, are the same all together
pub alike : (links others : List Link) → length others ≡ length links → ((i : ℕ) → (link_at others i).hash ≡ (link_at links i).hash) → map (λ link. link.hash) others ≡ map (λ link. link.hash) links
unfolding hash_of
alike links others long same =
    let few = length-map others hash_of in
    let many = length-map links hash_of in
    ext_get_or 0 (map hash_of others) (map hash_of links) (omega (arith, few, many, long)) (λ i lt. get_or-map hash_of others i no_link 0 (omega (arith, lt, few)) ∙ same i ∙ sym (get_or-map hash_of links i no_link 0 (omega (arith, lt, few, long))))
