-- Names of entries in tests.
use Rattle.std.proofs.Common.{◌≡◌, ℕ, zero, suc, ◌<◌, true, false, List, [], ◌∷◌, ◌++◌, Some, length, slice_get, refl, ap, subst, ◌∙◌, arith}
use Rattle.std.specs.Prelude.{codes}
use Rattle.unicode_ident.proofs.IdentLemmas.{is_xid_start-ascii}
use Rattle.std.specs.Char.{is_ascii_alphabetic}
use Rattle.fb_lex.specs.Tokens.{Front, word_kind, IsName}
use Rattle.fb_lex.proofs.Characters.{continued_none}
use Rattle.fb_write.proofs.Ahead.{ends_apart}
use Rattle.fb_write.proofs.Words.{ascii_begins}
use Rattle.ld_env.specs.declared.env.Entry.{Entry}
use Rattle.ld_env.specs.Named.{Named, names_of, entries_of}
use Rattle.fb_show.specs.Laws.{AreNames}
use Rattle.fb_show.specs.Shown.{params_of}
use Rattle.fb_show.proofs.NamesOk.{numbered_front}

letter_front : (c : ℕ) → c < 128 → is_ascii_alphabetic c ≡ true → Front false (c ∷ []) (word_kind (c ∷ [])) []
letter_front c low h = Front.word (ascii_begins c [] low) (is_xid_start-ascii c low ∙ h) (continued_none (ends_apart [] refl))

pub a_name : IsName (codes "a")
a_name = record {
  front = letter_front 97 (omega arith) refl;
  short = omega arith;
}

pub c_name : IsName (codes "c")
c_name = record {
  front = letter_front 99 (omega arith) refl;
  short = omega arith;
}

pub x1_name : IsName (codes "x1")
x1_name = record { front = numbered_front 1 (codes "1") (omega arith) refl; short = omega arith }

pub xx1_name : IsName (codes "xx1")
xx1_name = record { front = numbered_front 2 (codes "1") (omega arith) refl; short = omega arith }

pub none_named : AreNames []
none_named k x at = absurd cc

pub one_more_name : (env : List Named) (n : Named) → AreNames (names_of env) → IsName n.name → AreNames (names_of (env ++ n ∷ []))
one_more_name [] n h m zero x at = let same : n.name ≡ x = cc in subst IsName same m
one_more_name [] n h m (suc k) x at = absurd cc
one_more_name (e ∷ env) n h m zero x at = h 0 x at
one_more_name (e ∷ env) n h m (suc k) x at = one_more_name env n (λ k x at. h (suc k) x at) m k x at

pub params_number : (env : List Named) (k n : ℕ) (e : Entry) →
    slice_get (entries_of env) k ≡ Some e → length e.params ≡ n → slice_get (params_of env) k ≡ Some n
params_number [] k n e at same = absurd cc
params_number (x ∷ env) zero n e at same = let here : x.entry ≡ e = cc in ap (λ v. Some (length v.params)) here ∙ ap Some same
params_number (x ∷ env) (suc k) n e at same = params_number env k n e at same
