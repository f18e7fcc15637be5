-- What was seen of a run, post by post.
use Rattle.std.proofs.Common.{◌≡◌, ◌≤◌, ◌⊎◌, inl, inr, false, is_some, List, [], ◌∷◌, ◌++◌, length, Option, None, refl, sym, ap, subst, arith}
use Rattle.std.specs.List.{AllByRecursion}
use Rattle.nk_values.specs.Members.{IsIn}
use Rattle.status_board.specs.declared.post.Post.{Post}
use Rattle.status_board.specs.Posts.{last_post, newest, opening}
use Rattle.board_readers.specs.Sights.{IsKnown}
use Rattle.update_coordinator.specs.declared.phase.Phase.TheVariants as phase
use Rattle.watch_laws.specs.Watching.{ArePosts, IsPostOf}
use Rattle.world_core.specs.declared.event.Event.{Event}
use Rattle.world_core.specs.Worlds.{WorldValue}
use Rattle.fleet_workers.specs.Watching.{AreSightsOf, IsWatched}

-- what holds of each post holds of one of them
one-of : (P : Post → Type 0) (posts : List Post) (p : Post) → AllByRecursion P posts → IsIn posts p → P p
one-of P [] p all is = absurd is
one-of P (q ∷ qs) p all (inl is) = subst P is all.0
one-of P (q ∷ qs) p all (inr is) = one-of P qs p all.1 is

-- the opening is a post of a run that begins there
opening-post : (start : WorldValue) (events : List Event) → start.fleet.control.phase ≡ phase.Opening → start.fleet.control.halt ≡ None → IsPostOf start events opening
opening-post start events opens runs = record {
  within = omega arith;
  between = start;
  runs = refl;
  phase = sym opens;
  halted = sym (ap is_some runs);
}

known-post : (start : WorldValue) (events : List Event) (posts : List Post) (p : Post) → IsPostOf start events opening → ArePosts start events posts → IsKnown posts p → IsPostOf start events p
known-post start events posts p first all (inl is) = subst (IsPostOf start events) (sym is) first
known-post start events posts p first all (inr is) = one-of (IsPostOf start events) posts p all is

known-posts : (start : WorldValue) (events : List Event) (posts seen : List Post) → IsPostOf start events opening → ArePosts start events posts → AllByRecursion (IsKnown posts) seen → AllByRecursion (IsPostOf start events) seen
known-posts start events posts [] first all known = tt
known-posts start events posts (p ∷ ps) first all known = (known-post start events posts p first all known.0, known-posts start events posts ps first all known.1)

-- the newest of some posts is one of them, or what comes before them
last-known : (P : Post → Type 0) (first : Post) (posts : List Post) → P first → AllByRecursion P posts → P (last_post first posts)
last-known P first [] p all = p
last-known P first (q ∷ qs) p all = last-known P q qs all.0 all.1

with-last : (P : Post → Type 0) (ps : List Post) (p : Post) → AllByRecursion P ps → P p → AllByRecursion P (ps ++ p ∷ [])
with-last P [] p all one = (one, tt)
with-last P (q ∷ qs) p all one = (all.0, with-last P qs p all.1 one)

-- What was seen of a run that begins in the opening are sights of it.
pub sights_of : (start : WorldValue) (events : List Event) (seen : List Post) → start.fleet.control.phase ≡ phase.Opening → start.fleet.control.halt ≡ None → IsWatched start events seen → AreSightsOf start events seen
sights_of start events seen opens runs w =
    let first = opening-post start events opens runs in
    let s = w.sights.sights in
    let whole = with-last (IsPostOf start events) w.sights.before (newest w.posts) (known-posts start events w.posts w.sights.before first w.each s.each) (last-known (IsPostOf start events) opening w.posts first w.each) in record {
      seen = w.sights.before;
      last = newest w.posts;
      posts_are = w.sights.whole;
      each = subst (AllByRecursion (IsPostOf start events)) (sym w.sights.whole) whole;
      rising = s.rising;
      repeats = s.below;
      whole = w.all;
    }
