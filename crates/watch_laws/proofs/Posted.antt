-- Posts of a run that goes on.
use Rattle.std.proofs.Common.{◌≡◌, ℕ, zero, suc, ◌≤◌, List, [], ◌∷◌, ◌++◌, length, take, refl, sym, ap, subst, arith, length-append}
use Rattle.std.specs.List.{AllByRecursion}
use Rattle.status_board.specs.declared.post.Post.{Post}
use Rattle.watch_laws.specs.Laws.{PostsStay, StandIsPost}
use Rattle.watch_laws.specs.Watching.{IsPostOf, ArePosts, stand}
use Rattle.world_core.specs.declared.event.Event.{Event}
use Rattle.world_core.specs.Worlds.{WorldValue}
use Rattle.world_core.specs.Steps.{Runs}

take-more : (k : ℕ) (es rest : List Event) → k ≤ length es → take k (es ++ rest) ≡ take k es
take-more zero es rest le = refl
take-more (suc k) [] rest le = absurd (omega arith)
take-more (suc k) (x ∷ es) rest le = let r = take-more k es rest (omega arith) in ap (λ (l : List Event). x ∷ l) r

take-all : (es : List Event) → take (length es) es ≡ es
take-all [] = refl
take-all (x ∷ es) = ap (λ (l : List Event). x ∷ l) (take-all es)

post-stays : (start : WorldValue) (before rest : List Event) (p : Post) → IsPostOf start before p → IsPostOf start (before ++ rest) p
post-stays start before rest p is = record {
  within = (let w = is.within in omega (arith, length-append before rest));
  between = is.between;
  runs = subst (λ (es : List Event). Runs start es is.between) (sym (take-more p.count before rest is.within)) is.runs;
  phase = is.phase;
  halted = is.halted;
}

all-stay : (start : WorldValue) (before rest : List Event) (posts : List Post) → ArePosts start before posts → ArePosts start (before ++ rest) posts
all-stay start before rest [] are = tt
all-stay start before rest (p ∷ ps) are = (post-stays start before rest p are.0, all-stay start before rest ps are.1)

pub posts-stay : PostsStay
posts-stay start before now posts pre are = subst (λ (es : List Event). ArePosts start es posts) (pre.1) (all-stay start before (pre.0) posts are)

all-more : {X : Type 0} (P : X → Type 0) (xs : List X) (x : X) → AllByRecursion P xs → P x → AllByRecursion P (xs ++ x ∷ [])
all-more P [] x a p = (p, tt)
all-more P (y ∷ xs) x a p = (a.0, all-more P xs x a.1 p)

stand-is : (start : WorldValue) (events : List Event) (world : WorldValue) → Runs start events world → IsPostOf start events (stand (length events) world)
stand-is start events world runs = record {
  within = omega arith;
  between = world;
  runs = subst (λ (es : List Event). Runs start es world) (sym (take-all events)) runs;
  phase = refl;
  halted = refl;
}

pub stand-is-post : StandIsPost
stand-is-post start events world posts runs are = all-more (IsPostOf start events) posts (stand (length events) world) are (stand-is start events world runs)
