-- What the answers of a start and of a step say tells them apart (`BegunOnce`, `ReplyOnce`, `ToldOnce`): the way back from what is said. Assumes nothing.
use Rattle.std.specs.Prelude.{Result, Ok, Err}
use mathlib.Core.Path.{◌≡◌, refl, ap}
use mathlib.Core.List.{[], ◌∷◌}
use Rattle.words.proofs.AnswerLaws.{once}
use Rattle.words.specs.declared.answers.Refusal.{Refusal}
use Rattle.reasons_mailbox.specs.declared.mailbox.Mailbox.{Mailbox}
use Rattle.reasons_mailbox.specs.declared.mailbox.Reply.{Reply}
use Rattle.reasons_mailbox.specs.declared.mailbox.Stepped.{Stepped}
use Rattle.reasons_mailbox.specs.Mailbox.{Begins, no, begins, Said, waits, stores, ended, refused, nothing, Next, told_begun, told_reply, told}
use Rattle.reasons_mailbox.specs.Facts.{BegunOnce, ReplyOnce, ToldOnce}

begun_back : Begins → Result Mailbox Refusal
begun_back (no n) = Err (record { 0 = n })
begun_back (begins m) = Ok m

begun_back_law : (b : Result Mailbox Refusal) → begun_back (told_begun b) ≡ b
unfolding begun_back
begun_back_law (Ok m) = refl
begun_back_law (Err r) = refl

pub begun_once : BegunOnce
begun_once = once told_begun begun_back begun_back_law

reply_back : Said → Reply
reply_back waits = Reply.Waits
reply_back (stores []) = Reply.Nothing
reply_back (stores (p ∷ [])) = Reply.Store p.1
reply_back (stores (p ∷ q ∷ ps)) = Reply.StoreBoth p.1 q.1
reply_back (ended []) = Reply.Written
reply_back (ended (d ∷ ds)) = Reply.Read d
reply_back (refused n) = Reply.Refused n
reply_back nothing = Reply.Nothing

reply_back_law : (r : Reply) → reply_back (told_reply r) ≡ r
unfolding reply_back
reply_back_law Reply.Waits = refl
reply_back_law (Reply.Store w) = refl
reply_back_law (Reply.StoreBoth d w) = refl
reply_back_law (Reply.Read d) = refl
reply_back_law Reply.Written = refl
reply_back_law (Reply.Refused n) = refl
reply_back_law Reply.Nothing = refl

pub reply_once : ReplyOnce
reply_once = once told_reply reply_back reply_back_law

stepped_back : Next → Stepped
stepped_back t = record { state = t.state; reply = reply_back t.said }

pub told_once : ToldOnce
unfolding stepped_back
told_once = once told stepped_back (λ r. ap (λ (x : Reply). record { state = r.state; reply = x }) (reply_back_law r.reply))
