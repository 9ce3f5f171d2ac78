mod Noted
