-- Posts of a run that goes on.
use Rattle.std.proofs.Common.{◌≡◌, ◌≤◌, ◌<◌, ℕ, ◌⊎◌, Bool, true, false, IfOk, OnErr, Result, Ok, Err, List, [], ◌∷◌, ◌++◌, length, is_some, inl, inr, refl, ap, sym, subst, ◌∙◌, arith}
use mathlib.Core.List.{IsPrefix}
use Rattle.status_board.proofs.Rising.{last_of-snoc}
use Rattle.status_board.specs.declared.post.Post.{Post}
use Rattle.status_board.specs.Posts.{last_post, newest, opening, post_at}
use Rattle.update_coordinator.specs.declared.phase.Phase.{Phase}
use Rattle.watch_laws.proofs.Posted.{posts-stay, stand-is-post}
use Rattle.watch_laws.specs.Watching.{ArePosts, IsPosted, stand}
use Rattle.world_core.specs.declared.event.Event.{Event}
use Rattle.world_core.specs.Steps.{Runs}
use Rattle.world_core.specs.Worlds.{WorldValue}
use Rattle.world_journal.specs.declared.entry.Entry.{Entry}
use Rattle.world_journal.specs.Journals.{HeldValue, events_of}
use Rattle.world_journal.specs.Runs.{RunValue}
use Rattle.world_journal.specs.Watching.{WatchedValue, StaysOrCloses, MayPost, DidAndPosted}
use Rattle.world_journal.proofs.Onward.{Extends, StandsStill}

events-append : (xs rest : List Entry) → events_of (xs ++ rest) ≡ events_of xs ++ events_of rest
events-append [] rest = refl
events-append (x ∷ xs) rest = ap (λ (es : List Event). x.event ∷ es) (events-append xs rest)

events-length : (xs : List Entry) → length (events_of xs) ≡ length xs
events-length [] = refl
events-length (x ∷ xs) = let r = events-length xs in omega (arith, r)

events-prefix : (xs ys : List Entry) → IsPrefix xs ys → IsPrefix (events_of xs) (events_of ys)
events-prefix xs ys pre = (events_of (pre.0), sym (events-append xs (pre.0)) ∙ ap events_of (pre.1))

-- ---- what a run and its pen keep

-- each post is of the run, and the newest counts all of its entries unless it was closed
abbrev pub Keeps : {E : Type 0} → WorldValue → RunValue E → List Post → Type 0
Keeps start run posts = ArePosts start (events_of run.held.journal) posts × (run.closed ≡ false → IsPosted (events_of run.held.journal) posts)

-- posts of a run are posts of it after a call
pub posts-on : {E : Type 0} (start : WorldValue) (old new : RunValue E) (posts : List Post) → Extends old new → ArePosts start (events_of old.held.journal) posts → ArePosts start (events_of new.held.journal) posts
posts-on start old new posts pre are = posts-stay start (events_of old.held.journal) (events_of new.held.journal) posts (events-prefix old.held.journal new.held.journal pre) are

-- a run that made no step
pub none-kept : {E : Type 0} (start : WorldValue) (run : RunValue E) (posts : List Post) → run.held.journal ≡ [] → posts ≡ [] → Keeps start run posts
none-kept start run posts empty none =
    let counts : (newest posts).count ≡ 0 = ap (λ (ps : List Post). (newest ps).count) none in
    let events : length (events_of run.held.journal) ≡ 0 = ap (λ (es : List Entry). length (events_of es)) empty in
    (subst (λ (ps : List Post). ArePosts start (events_of run.held.journal) ps) (sym none) tt, λ opened. omega (arith, counts, events))

-- a call that makes no step
pub still-kept : {E : Type 0} (start : WorldValue) (old new : RunValue E) (posts : List Post) → StandsStill old new → Keeps start old posts → Keeps start new posts
still-kept {E} start old new posts is keeps = (
  subst (λ (h : HeldValue E). ArePosts start (events_of h.journal) posts) (sym is.0) keeps.0,
  λ opened. subst (λ (h : HeldValue E). IsPosted (events_of h.journal) posts) (sym is.0) (keeps.1 (sym is.1 ∙ opened)),
)

-- a run that is closed
pub closed-kept : {E : Type 0} (start : WorldValue) (old new : RunValue E) (posts : List Post) → new ≡ record old { closed = true } → Keeps start old posts → Keeps start new posts
closed-kept {E} start old new posts is keeps = (
  subst (λ (r : RunValue E). ArePosts start (events_of r.held.journal) posts) (sym is) keeps.0,
  λ opened. absurd (cc (ap (λ (r : RunValue E). r.closed) is, opened)),
)

-- ---- a post

counts-within : (start : WorldValue) (events : List Event) (p : Post) (posts : List Post) → p.count ≤ length events → ArePosts start events posts → (last_post p posts).count ≤ length events
counts-within start events p [] within are = within
counts-within start events p (q ∷ qs) within are = counts-within start events q qs are.0.within are.1

-- the newest counts all entries, if it does not count fewer
pub all-counted : (start : WorldValue) (journal : List Entry) (posts : List Post) → ArePosts start (events_of journal) posts → length journal ≤ (newest posts).count → IsPosted (events_of journal) posts
all-counted start journal posts are no_fewer =
    let within : (newest posts).count ≤ length (events_of journal) = counts-within start (events_of journal) opening posts (omega arith) are in
    omega (arith, within, no_fewer, events-length journal)

-- and not, if it does
pub not-counted : (journal : List Entry) (posts : List Post) → (newest posts).count < length journal → ¬ IsPosted (events_of journal) posts
not-counted journal posts fewer is = absurd (omega (arith, fewer, is, events-length journal))

pub stand-posts : (start : WorldValue) (journal : List Entry) (world : WorldValue) (posts : List Post) → Runs start (events_of journal) world → ArePosts start (events_of journal) posts
    → ArePosts start (events_of journal) (posts ++ stand (length journal) world ∷ [])
stand-posts start journal world posts runs are =
    subst (λ (n : ℕ). ArePosts start (events_of journal) (posts ++ stand n world ∷ [])) (events-length journal) (stand-is-post start (events_of journal) world posts runs are)

-- a post that counts all entries was added
pub added-counted : (journal : List Entry) (posts now : List Post) (p : Post) → now ≡ posts ++ p ∷ [] → p.count ≡ length journal → IsPosted (events_of journal) now
added-counted journal posts now p added counts =
    let is = ap (λ (ps : List Post). (newest ps).count) added ∙ ap (λ (q : Post). q.count) (last_of-snoc opening posts p) in omega (arith, is, counts, events-length journal)

-- ---- a call with its post

-- What is said of a run and its pen after the call: the same run, or a closed one, and its post.
pub did-posted : {E : Type 0} (start : WorldValue) (Does : RunValue E → RunValue E → Type 0) (old between now : RunValue E) (posts posts_now : List Post)
    → Keeps start old posts → Does old between → StaysOrCloses between now → MayPost between posts posts_now
    → (IsPosted (events_of between.held.journal) posts → (now ≡ between) × (posts_now ≡ posts))
    → DidAndPosted Does (record { run = old; posts = posts }) (record { run = now; posts = posts_now })
did-posted start Does old between now posts posts_now keeps did stays may still = record {
  between = between;
  did = did;
  stays = stays;
  posts = may;
  still = λ opened same. still (let is = keeps.1 opened in omega (arith, is, same, events-length old.held.journal, events-length between.held.journal));
}

pub ok-posted : {X F E : Type 0} (start : WorldValue) (Does : X → RunValue E → RunValue E → Type 0) (r : Result X F) (old between now : RunValue E) (posts posts_now : List Post)
    → Keeps start old posts → IfOk r (λ x. Does x old between) → StaysOrCloses between now → MayPost between posts posts_now
    → (IsPosted (events_of between.held.journal) posts → (now ≡ between) × (posts_now ≡ posts))
    → IfOk r (λ x. DidAndPosted (Does x) (record { run = old; posts = posts }) (record { run = now; posts = posts_now }))
ok-posted start Does (Ok x) old between now posts posts_now keeps did stays may still = did-posted start (Does x) old between now posts posts_now keeps did stays may still
ok-posted start Does (Err e) old between now posts posts_now keeps did stays may still = tt

pub err-posted : {X F E : Type 0} (start : WorldValue) (Does : RunValue E → RunValue E → Type 0) (r : Result X F) (old between now : RunValue E) (posts posts_now : List Post)
    → Keeps start old posts → OnErr r (Does old between) → StaysOrCloses between now → MayPost between posts posts_now
    → (IsPosted (events_of between.held.journal) posts → (now ≡ between) × (posts_now ≡ posts))
    → OnErr r (DidAndPosted Does (record { run = old; posts = posts }) (record { run = now; posts = posts_now }))
err-posted start Does (Ok x) old between now posts posts_now keeps did stays may still = tt
err-posted start Does (Err e) old between now posts posts_now keeps did stays may still = did-posted start Does old between now posts posts_now keeps did stays may still

-- a call that posts nothing
pub still-posted : {E : Type 0} (Does : RunValue E → RunValue E → Type 0) (old now : RunValue E) (posts : List Post) → Does old now → DidAndPosted Does (record { run = old; posts = posts }) (record { run = now; posts = posts })
still-posted Does old now posts did = record { between = now; did = did; stays = inl refl; posts = inl refl; still = λ opened same. (refl, refl) }
