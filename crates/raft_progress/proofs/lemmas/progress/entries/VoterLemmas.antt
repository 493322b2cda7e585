-- The position of an id among the entries.
use Rattle.std.specs.Prelude.{◌≡◌, ℕ, ◌<◌, Bool, true, false, nat_lt, List, [], ◌∷◌, length, take, Some, position}
use Rattle.std.specs.Map.{keys_of, lookup}
use Rattle.std.specs.Set.{is_member}
use Rattle.std.proofs.Common.{arith, refl, get_or, ltb, ltb-true, ltb-false}
use Rattle.std.proofs.lemmas.List.Quantifiers.{position-Some}
use Rattle.raft_progress.proofs.lemmas.progress.SettledLemmas.{none_before}
use Rattle.raft_progress.proofs.lemmas.progress.OutcomeLemmas.{some_before}
use Rattle.raft_progress.proofs.lemmas.progress.entries.EntriesLemmas.{lookup_found}

module _ {ID V : Type 0} (eq : ID → ID → Bool) (id : ID) (n i : ℕ) where
  at_some : (entries : List (ID × V)) → position (λ (f : ID × V). eq id f.0) entries ≡ Some i → ID × V
  at_some [] h = cc
  at_some (e ∷ es) h = e

  pub member_position : (entries : List (ID × V)) → position (λ (f : ID × V). eq id f.0) entries ≡ Some i
      → is_member eq (take n (keys_of entries)) id ≡ nat_lt i n
  member_position entries at = by (ltb i n) refl
    where
      d : ID × V
      d = at_some entries at

      place : (i < length entries) × (eq id (get_or entries i d).0 ≡ true) × ((k : ℕ) → k < i → eq id (get_or entries k d).0 ≡ false)
      place = position-Some (λ (f : ID × V). eq id f.0) entries i d at

      by : (b : Bool) → ltb i n ≡ b → is_member eq (take n (keys_of entries)) id ≡ b
      by true t = some_before (eq id) entries n i d (ltb-true i n t) place.0 place.1
      by false t = let l = ltb-false i n t in none_before (eq id) entries n d (λ k a b. place.2 k (omega arith))

  pub value_position : (entries : List (ID × V)) → position (λ (f : ID × V). eq id f.0) entries ≡ Some i
      → (v : V) × (lookup (eq id) entries ≡ Some v)
  value_position entries at = ((get_or entries i (at_some entries at)).1, lookup_found (eq id) entries i (at_some entries at) at)
