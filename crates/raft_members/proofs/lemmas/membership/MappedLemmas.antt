-- Configs as the lists of their keys.
use Rattle.std.specs.Prelude.{◌≡◌, ℕ, Bool, false, ◌||◌, List, [], ◌∷◌, map, length, ◌-◌, Some, None, refl}
use Rattle.std.proofs.Common.{sym, ◌∙◌, ap}
use Rattle.std.proofs.Math.Bool.{or-false}
use Rattle.std.specs.Prelude.{◌+◌, ◌<◌, ◌++◌, take}
use Rattle.std.proofs.Common.{get_or}
use Rattle.std.proofs.lemmas.List.{map-append, map_more, take_more}
use Rattle.std.proofs.lemmas.List.Folds.{list_any-append}
use Rattle.std.specs.List.{list_any, list_all, slice_get}
use Rattle.std.specs.Option.{option_map, unwrap_or}
use Rattle.raft_members.specs.membership.Change.{last_config}
use Rattle.std.proofs.lemmas.Option.{slice_get-map}
use Rattle.std.proofs.lemmas.List.{length-map}
use Rattle.std.specs.Prelude.{◌&&◌}
use Rattle.std.specs.Cmp.Lexicographic.{pointwise}
use Rattle.std.specs.Set.{is_member}
use Rattle.raft_members.specs.quorum.Majority.{is_majority, is_joint_majority, is_voter_of}

module _ {X Y : Type 0} (f : X → Y) where
  pub list_any-map : (p : Y → Bool) (xs : List X) → list_any p (map f xs) ≡ list_any (λ x. p (f x)) xs
  list_any-map p [] = refl
  list_any-map p (x ∷ xs) = ap (λ b. p (f x) || b) (list_any-map p xs)

  pub list_all-map : (p : Y → Bool) (xs : List X) → list_all p (map f xs) ≡ list_all (λ x. p (f x)) xs
  list_all-map p [] = refl
  list_all-map p (x ∷ xs) = ap (λ b. p (f x) && b) (list_all-map p xs)

  pub last-map : (xs : List X) (x : X) → Some x ≡ slice_get xs (length xs - 1) → slice_get (map f xs) (length (map f xs) - 1) ≡ Some (f x)
  last-map xs x h = ap (λ n. slice_get (map f xs) (n - 1)) (length-map xs f) ∙ slice_get-map f xs (length xs - 1)
      ∙ ap (option_map f) (sym h)

  pub last_none-map : (xs : List X) → None ≡ slice_get xs (length xs - 1) → slice_get (map f xs) (length (map f xs) - 1) ≡ None
  last_none-map xs h = ap (λ n. slice_get (map f xs) (n - 1)) (length-map xs f) ∙ slice_get-map f xs (length xs - 1)
      ∙ ap (option_map f) (sym h)

pub pointwise-map : {X Y : Type 0} (f : X → Y) (e : Y → Y → Bool) (xs ys : List X)
    → pointwise (λ x y. e (f x) (f y)) xs ys ≡ pointwise e (map f xs) (map f ys)
pointwise-map f e [] [] = refl
pointwise-map f e [] (y ∷ ys) = refl
pointwise-map f e (x ∷ xs) [] = refl
pointwise-map f e (x ∷ xs) (y ∷ ys) = ap (λ b. e (f x) (f y) && b) (pointwise-map f e xs ys)

-- one more item of a list
pub any_more : {X : Type 0} (p : X → Bool) (xs : List X) (i : ℕ) (d : X) → i < length xs → get_or xs i d ≡ d
    → list_any p (take (i + 1) xs) ≡ (list_any p (take i xs) || p d)
any_more p xs i d h e =
    ap (list_any p) (take_more xs i d h) ∙ list_any-append p (take i xs) (get_or xs i d ∷ [])
    ∙ ap (λ x. list_any p (take i xs) || (p x || false)) e ∙ ap (λ b. list_any p (take i xs) || b) (or-false (p d))

-- one more item is pushed
pub map_pushed : {X Y B : Type 0} (f : X → B) (g : Y → B) (xs : List X) (ys : List Y) (i : ℕ) (x : X) (y : Y) → i < length xs
    → x ≡ get_or xs i x → map g ys ≡ map f (take i xs) → g y ≡ f x → map g (ys ++ y ∷ []) ≡ map f (take (i + 1) xs)
map_pushed f g xs ys i x y h is so_far here =
    map-append g ys (y ∷ []) ∙ (λ k. so_far k ++ here k ∷ []) ∙ ap (λ v. map f (take i xs) ++ f v ∷ []) is ∙ sym (map_more f xs i x h)

-- the last config of some sets
pub last_config-some : {K X : Type 0} (f : X → List K) (xs : List X) (x : X) → Some x ≡ slice_get xs (length xs - 1)
    → last_config (map f xs) ≡ f x
last_config-some f xs x h = ap (λ o. unwrap_or o []) (last-map f xs x h)

pub last_config-none : {K X : Type 0} (f : X → List K) (xs : List X) → None ≡ slice_get xs (length xs - 1) → last_config (map f xs) ≡ []
last_config-none f xs h = ap (λ o. unwrap_or o []) (last_none-map f xs h)

-- a joint of lists has the quorums and the voters of its configs
module _ {K X : Type 0} (f : X → List K) (eq : K → K → Bool) (xs : List X) (configs : List (List K)) (same : map f xs ≡ configs) where
  pub quorums_of_lists : (set : K → Bool) → list_all (λ x. is_majority eq (f x) set) xs ≡ is_joint_majority eq configs set
  quorums_of_lists set = sym (list_all-map f (λ c. is_majority eq c set) xs) ∙ ap (λ cs. is_joint_majority eq cs set) same

  pub voters_of_lists : (id : K) → list_any (λ x. is_member eq (f x) id) xs ≡ is_voter_of eq configs id
  voters_of_lists id = sym (list_any-map f (λ c. is_member eq c id) xs) ∙ ap (λ cs. is_voter_of eq cs id) same
