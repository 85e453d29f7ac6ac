-- A reply, appended piece by piece.
use Rattle.std.proofs.Common.{◌≡◌, ℕ, ◌<◌, List, [], ◌∷◌, ◌++◌, length, codes, refl, ap, ◌∙◌, arith, append_assoc}
use Rattle.hex.specs.Hex.{encode_lower}
use Rattle.script_run.specs.Serial.{load_reply}

pub three : (text t1 t2 t3 x y z : List ℕ) → t1 ≡ text ++ x → t2 ≡ t1 ++ y → t3 ≡ t2 ++ z → t3 ≡ text ++ (x ++ (y ++ z))
three text t1 t2 t3 x y z a b c =
    c ∙ ap (λ (t : List ℕ). t ++ z) (b ∙ ap (λ (t : List ℕ). t ++ y) a) ∙ append_assoc (text ++ x) y z ∙ append_assoc text x (y ++ z)

pub load_reply_some : (bytes : List ℕ) → 0 < length bytes → load_reply bytes ≡ codes "load " ++ (encode_lower bytes ++ 10 ∷ [])
load_reply_some [] some = absurd (omega arith)
load_reply_some (b ∷ bytes) some = refl

-- a fault line that is written part by part
pub fault_text : (t a n p q : List ℕ) → ((((((t ++ a) ++ n) ++ 32 ∷ []) ++ p) ++ 32 ∷ []) ++ q) ++ 10 ∷ [] ≡ t ++ (a ++ (n ++ 32 ∷ (p ++ 32 ∷ (q ++ 10 ∷ []))))
fault_text t a n p q = simp append_assoc refl
